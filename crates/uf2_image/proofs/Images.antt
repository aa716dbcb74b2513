-- The image that kept blocks make.
use Rattle.std.proofs.Common.{◌≡◌, ◌≤◌, ◌<◌, ℕ, ◌+◌, ◌-◌, ◌%◌, min, List, [], ◌∷◌, ◌++◌, length, map, Some, None, Ok, Err, refl, sym, ap, ◌∙◌, arith, slice_get}
use Rattle.std.proofs.lemmas.List.{map-append}
use Rattle.std.proofs.lemmas.List.Sums.{fold-append}
use Rattle.std.proofs.lemmas.List.Elements.{recursion_from_All}
use Rattle.std.specs.List.{All, AllByRecursion, enumerate_from, fold}
use Rattle.uf2_image.specs.declared.parts.Part.{Part}
use Rattle.uf2_image.specs.declared.fault.ImageFault.TheVariants.{Missing, Nothing}
use Rattle.uf2_image.specs.Uf2.{count_of, entry_of, in_order, least, least_missing, loaded, pairs, part_of, payload_of, target_of, unless_missing, whole, FitsSram}
use Rattle.uf2_image.specs.Reading.{AreSpread, CanBePlaced, HasPayload, IsSolid}
use Rattle.uf2_image.proofs.Placing.{LieFrom-all}
use Rattle.uf2_image.proofs.Ranges.{length_payload}

-- ## The least address

lowest : ℕ → List (List ℕ) → ℕ
lowest low blocks = fold (λ a block. min a (target_of block)) low blocks

row_above : (low t : ℕ) (xs : List ℕ) → low ≤ t → fold min low (map (λ pair. pair.0) (enumerate_from t xs)) ≡ low
row_above low t [] h = refl
row_above low t (x ∷ xs) h =
    let same : min low t ≡ low = omega arith in
    ap (λ a. fold min a (map (λ pair. pair.0) (enumerate_from (t + 1) xs))) same ∙ row_above low (t + 1) xs (omega arith)

row_least : (low t : ℕ) (xs : List ℕ) → 0 < length xs → fold min low (map (λ pair. pair.0) (enumerate_from t xs)) ≡ min low t
row_least low t [] h = absurd (omega arith)
row_least low t (x ∷ xs) h = row_above (min low t) (t + 1) xs (omega arith)

lowest_of_loaded : (low : ℕ) (blocks : List (List ℕ)) → AllByRecursion HasPayload blocks → fold min low (map (λ pair. pair.0) (loaded blocks)) ≡ lowest low blocks
unfolding lowest
lowest_of_loaded low [] h = refl
lowest_of_loaded low (b ∷ bs) h =
    ap (fold min low) (map-append (λ pair. pair.0) (pairs b) (loaded bs))
    ∙ fold-append min low (map (λ pair. pair.0) (pairs b)) (map (λ pair. pair.0) (loaded bs))
    ∙ ap (λ a. fold min a (map (λ pair. pair.0) (loaded bs))) (row_least low (target_of b) (payload_of b) (omega (arith, length_payload b h.0, h.0.some)))
    ∙ lowest_of_loaded (min low (target_of b)) bs h.1

least_of_row : (t : ℕ) (xs : List ℕ) (pairs : List (ℕ × ℕ)) → 0 < length xs → least (map (λ pair. pair.0) (enumerate_from t xs ++ pairs)) ≡ fold min t (map (λ pair. pair.0) (enumerate_from t xs ++ pairs))
least_of_row t [] pairs h = absurd (omega arith)
least_of_row t (x ∷ xs) pairs h =
    let same : min t t ≡ t = omega arith in
    ap (λ a. fold min a (map (λ pair. pair.0) (enumerate_from (t + 1) xs ++ pairs))) (sym same)

entry_is : (b : List ℕ) (bs : List (List ℕ)) (low : ℕ) → AllByRecursion HasPayload (b ∷ bs) → low ≡ lowest (target_of b) (b ∷ bs) → entry_of (b ∷ bs) ≡ low - low % 2
unfolding entry_of
entry_is b bs low h is =
    let same : least (map (λ pair. pair.0) (loaded (b ∷ bs))) ≡ low =
    least_of_row (target_of b) (payload_of b) (loaded bs) (omega (arith, length_payload b h.0, h.0.some)) ∙ lowest_of_loaded (target_of b) (b ∷ bs) h ∙ sym is in
    ap (λ a. a - a % 2) same

-- ## The answer

pub whole_empty : (blocks : List (List ℕ)) → None ≡ slice_get blocks 0 → whole blocks ≡ Err Nothing
unfolding whole
whole_empty [] h = refl
whole_empty (b ∷ bs) h = cc

head_is : (first b : List ℕ) (bs : List (List ℕ)) → Some first ≡ slice_get (b ∷ bs) 0 → first ≡ b
head_is first b bs h = cc

pub whole_missing : (blocks : List (List ℕ)) (first : List ℕ) (n : ℕ) → Some first ≡ slice_get blocks 0 → Some n ≡ least_missing blocks (count_of first) → whole blocks ≡ Err (Missing n)
unfolding whole
whole_missing [] first n h m = cc
whole_missing (b ∷ bs) first n h m = ap (λ o. unless_missing o (b ∷ bs)) (ap (λ x. least_missing (b ∷ bs) (count_of x)) (sym (head_is first b bs h)) ∙ sym m)

pub whole_image : (blocks : List (List ℕ)) (first : List ℕ) (low t : ℕ) (parts : List Part) → Some first ≡ slice_get blocks 0 → None ≡ least_missing blocks (count_of first)
    → parts ≡ in_order (map part_of blocks) → low ≡ fold (λ a block. min a (target_of block)) t blocks → t ≡ target_of first → All HasPayload blocks
    → whole blocks ≡ Ok (record { parts = parts; entry = low - low % 2 })
unfolding whole lowest
whole_image [] first low t parts h m p l e all = cc
whole_image (b ∷ bs) first low t parts h m p l e all =
    let start : t ≡ target_of b = e ∙ ap target_of (head_is first b bs h) in
    let low_is : low ≡ lowest (target_of b) (b ∷ bs) = l ∙ ap (λ a. lowest a (b ∷ bs)) start in
    ap (λ o. unless_missing o (b ∷ bs)) (ap (λ x. least_missing (b ∷ bs) (count_of x)) (sym (head_is first b bs h)) ∙ sym m)
    ∙ ap (λ (entry : ℕ). Ok (record { parts = in_order (map part_of (b ∷ bs)); entry = entry })) (entry_is b bs low (recursion_from_All HasPayload (b ∷ bs) all) low_is)
    ∙ ap (λ (ps : List Part). Ok (record { parts = ps; entry = low - low % 2 })) (sym p)

-- ## What holds of it

lowest_from : (low : ℕ) (placed : List Part) (blocks : List (List ℕ)) → 0x20000000 ≤ low → CanBePlaced placed (map part_of blocks) → 0x20000000 ≤ lowest low blocks
unfolding lowest
lowest_from low placed [] h can = h
lowest_from low placed (b ∷ bs) h can = lowest_from (min low (target_of b)) _ bs (omega (arith, can.0.start)) can.2

lowest_to : (low : ℕ) (blocks : List (List ℕ)) → lowest low blocks ≤ low
unfolding lowest
lowest_to low [] = omega arith
lowest_to low (b ∷ bs) = omega (arith, lowest_to (min low (target_of b)) bs)

pub image_fits : (blocks : List (List ℕ)) (first : List ℕ) (low t : ℕ) (parts : List Part) → Some first ≡ slice_get blocks 0 → parts ≡ in_order (map part_of blocks)
    → low ≡ fold (λ a block. min a (target_of block)) t blocks → t ≡ target_of first → AreSpread blocks → FitsSram (record { parts = parts; entry = low - low % 2 })
unfolding lowest
image_fits [] first low t parts h p l e spread = cc
image_fits (b ∷ bs) first low t parts h p l e spread =
    let start : t ≡ target_of b = e ∙ ap target_of (head_is first b bs h) in
    let solid : IsSolid (part_of b) = spread.parts.0 in
    let low_is : low ≡ lowest t (b ∷ bs) = l in
    let from : 0x20000000 ≤ lowest t (b ∷ bs) = lowest_from t [] (b ∷ bs) (omega (arith, solid.start)) spread.parts in
    let to : lowest t (b ∷ bs) ≤ t = lowest_to t (b ∷ bs) in
    record {
      parts = rw p (LieFrom-all [] (map part_of (b ∷ bs)) (omega arith) spread.parts);
      even = grind arith;
      from_start = omega arith;
      before_end = omega (arith, solid.some, solid.finish);
    }

-- Each image that a file holds can be written.
use Rattle.std.proofs.Common.{◌≡◌, ◌≤◌, inl, inr, ℕ, zero, suc, ◌+◌, ◌-◌, ◌*◌, ◌/◌, ◌%◌, Bool, true, false, cond, not, List, [], ◌∷◌, length, map, min, Option, Some, None, Result, Ok, Err, refl, sym, ap, ◌∙◌, subst, arith, length-append, ltb, eqb}
use Rattle.std.specs.List.{fold, filter, AllByRecursion}
use Rattle.std.proofs.lemmas.Bool.{lt-ltb, le-ltb, cases_lt}
use Rattle.std.proofs.lemmas.List.{length-map}
use Rattle.std.proofs.lemmas.List.Elements.{recursion_from_All}
use Rattle.uf2_image.specs.declared.parts.Part.{Part}
use Rattle.uf2_image.specs.declared.parts.Image.{Image}
use Rattle.uf2_image.specs.declared.fault.ImageFault.{ImageFault}
use Rattle.uf2_image.specs.declared.fault.ImageFault.TheVariants.{Empty, Ragged}
use Rattle.uf2_image.specs.Uf2.{block_at, count_of, first_fault, image_of, in_order, insert_part, is_kept, kept, least_missing, part_of, target_of, unless_fault, unless_missing, whole}
use Rattle.uf2_image.specs.Reading.{AreSpread, HasPayload}
use Rattle.uf2_image.specs.Writing.{first_address, IsSized, IsWritable}
use Rattle.uf2_image.proofs.Files.{kept_more, kept_start}
use Rattle.uf2_image.proofs.Images.{whole_image}
use Rattle.uf2_image.proofs.Placing.{All-fold, LieFrom-all}
use Rattle.uf2_image.proofs.Ranges.{length_payload}
use Rattle.uf2_image.proofs.Spread.{spread_kept}

-- ## How many parts there are

filter_one : (x : List ℕ) → length (filter is_kept (x ∷ [])) ≤ 1
filter_one x = elim (is_kept x) as (λ b. length (cond b (x ∷ []) []) ≤ 1) [
  | true ↦ omega arith
  | false ↦ omega arith
]

kept_short : (bytes : List ℕ) (n : ℕ) → length (kept bytes n) ≤ n
kept_short bytes zero = let none : length (kept bytes 0) ≡ 0 = ap length (kept_start bytes) in omega (arith, none)
kept_short bytes (suc n) =
    let more : n + 1 ≡ suc n = omega arith in
    let long : length (kept bytes (suc n)) ≡ length (kept bytes n) + length (filter is_kept (block_at bytes n ∷ [])) =
    ap (λ m. length (kept bytes m)) (sym more) ∙ ap length (kept_more bytes n) ∙ length-append (kept bytes n) (filter is_kept (block_at bytes n ∷ [])) in
    omega (arith, long, kept_short bytes n, filter_one (block_at bytes n))

length_insert : (parts : List Part) (p : Part) → length (insert_part parts p) ≡ suc (length parts)
length_insert [] p = refl
length_insert (q ∷ qs) p = elim (ltb p.address q.address) as (λ b. length (cond b (p ∷ q ∷ qs) (q ∷ insert_part qs p)) ≡ suc (suc (length qs))) [
  | true ↦ refl
  | false ↦ ap suc (length_insert qs p)
]

length_order : (placed parts : List Part) → length (fold insert_part placed parts) ≡ length placed + length parts
length_order placed [] = omega arith
length_order placed (p ∷ ps) = length_order (insert_part placed p) ps ∙ omega (arith, length_insert placed p)

-- ## The first of them

lowest_in : (q : Part) (qs : List Part) (blocks : List (List ℕ)) → first_address (fold insert_part (q ∷ qs) (map part_of blocks)) ≡ fold (λ a block. min a (target_of block)) q.address blocks
lowest_in q qs [] = refl
lowest_in q qs (b ∷ bs) =
    let p : Part = part_of b in
    let put : Bool → List Part = λ x. cond x (p ∷ q ∷ qs) (q ∷ insert_part qs p) in
    elim (cases_lt p.address q.address) [
      | inl below ↦ (let least : p.address ≡ min q.address p.address = omega arith in
          ap (λ x. first_address (fold insert_part (put x) (map part_of bs))) (lt-ltb p.address q.address below)
          ∙ lowest_in p (q ∷ qs) bs ∙ ap (λ m. fold (λ a block. min a (target_of block)) m bs) least)
      | inr above ↦ (let least : q.address ≡ min q.address p.address = omega arith in
          ap (λ x. first_address (fold insert_part (put x) (map part_of bs))) (le-ltb p.address q.address above)
          ∙ lowest_in q (insert_part qs p) bs ∙ ap (λ m. fold (λ a block. min a (target_of block)) m bs) least)
    ]

lowest_of : (b : List ℕ) (bs : List (List ℕ)) → first_address (in_order (map part_of (b ∷ bs))) ≡ fold (λ a block. min a (target_of block)) (target_of b) (b ∷ bs)
lowest_of b bs =
    let same : target_of b ≡ min (target_of b) (target_of b) = omega arith in
    lowest_in (part_of b) [] bs ∙ ap (λ m. fold (λ a block. min a (target_of block)) m bs) same

-- ## The whole

sized : (b : List ℕ) → HasPayload b → IsSized (part_of b)
sized b h = record { some = omega (arith, length_payload b h, h.some); room = omega (arith, length_payload b h, h.room) }

all_sized : (blocks : List (List ℕ)) → AllByRecursion HasPayload blocks → AllByRecursion IsSized (map part_of blocks)
all_sized [] h = tt
all_sized (b ∷ bs) h = (sized b h.0, all_sized bs h.1)

same_image : (x y : Image) → ◌≡◌ {A = Result Image ImageFault} (Ok x) (Ok y) → x ≡ y
same_image x y h = cc

none_missing : (o : Option ℕ) (blocks : List (List ℕ)) (image : Image) → unless_missing o blocks ≡ Ok image → o ≡ None
none_missing (Some n) blocks image h = cc
none_missing None blocks image h = refl

whole_of : (blocks : List (List ℕ)) (image : Image) → AreSpread blocks → length blocks ≤ 32768 → whole blocks ≡ Ok image → IsWritable image
unfolding whole
whole_of [] image spread few h = cc
whole_of (b ∷ bs) image spread few h =
    let none : least_missing (b ∷ bs) (count_of b) ≡ None = none_missing (least_missing (b ∷ bs) (count_of b)) (b ∷ bs) image h in
    let parts : List Part = in_order (map part_of (b ∷ bs)) in
    let low : ℕ = fold (λ a block. min a (target_of block)) (target_of b) (b ∷ bs) in
    let is : Image = record { parts = parts; entry = low - low % 2 } in
    let made = whole_image (b ∷ bs) b low (target_of b) parts refl (sym none) refl refl refl spread.payloads in
    let same : is ≡ image = same_image is image (sym made ∙ h) in
    let same_length : length (map part_of (b ∷ bs)) ≡ length (b ∷ bs) = rw length-map refl in
    let long : length parts ≡ length (b ∷ bs) = omega (arith, length_order [] (map part_of (b ∷ bs)), same_length) in
    let writable : IsWritable is = record {
      some = omega (arith, long);
      few = omega (arith, long, few);
      sizes = All-fold IsSized [] (map part_of (b ∷ bs)) tt (all_sized (b ∷ bs) (recursion_from_All HasPayload (b ∷ bs) spread.payloads));
      lies = LieFrom-all [] (map part_of (b ∷ bs)) (omega arith) spread.parts;
      entry = ap (λ a. a - a % 2) (sym (lowest_of b bs));
    } in
    subst (λ (i : Image). IsWritable i) same writable

if_ok : (b : Bool) (fault : ImageFault) (rest : Result Image ImageFault) (image : Image) → cond b (Err fault) rest ≡ Ok image → (b ≡ false) × (rest ≡ Ok image)
if_ok true fault rest image h = cc
if_ok false fault rest image h = (refl, h)

unless_ok : (o : Option ImageFault) (rest : Result Image ImageFault) (image : Image) → unless_fault o rest ≡ Ok image → (o ≡ None) × (rest ≡ Ok image)
unless_ok (Some fault) rest image h = cc
unless_ok None rest image h = (refl, h)

pub what_is_read_can_be_written : (bytes : List ℕ) (image : Image) → length bytes ≤ 16777216 → image_of bytes ≡ Ok image → IsWritable image
unfolding image_of
what_is_read_can_be_written bytes image small h =
    let n : ℕ = length bytes / 512 in
    let full = if_ok (eqb (length bytes) 0) Empty
    (cond (not (eqb (length bytes % 512) 0)) (Err (Ragged (length bytes))) (unless_fault (first_fault bytes n) (whole (kept bytes n)))) image h in
    let even = if_ok (not (eqb (length bytes % 512) 0)) (Ragged (length bytes)) (unless_fault (first_fault bytes n) (whole (kept bytes n))) image full.1 in
    let rest = unless_ok (first_fault bytes n) (whole (kept bytes n)) image even.1 in
    let within : n * 512 ≤ length bytes = omega arith in
    let few : n ≤ 32768 = omega (arith, small) in
    whole_of (kept bytes n) image (spread_kept bytes n within rest.0) (omega (arith, kept_short bytes n, few)) rest.1

-- Kept blocks without a fault can be placed one after the other.
use Rattle.std.proofs.Common.{◌≡◌, ◌≤◌, ◌<◌, ◌⊎◌, inl, inr, ℕ, zero, suc, ◌+◌, ◌*◌, Bool, true, false, cond, not, ◌&&◌, ◌||◌, List, [], ◌∷◌, ◌++◌, length, map, Option, Some, None, refl, sym, ap, ◌∙◌, subst, arith, ltb, leb, eqb}
use Rattle.std.proofs.lemmas.Bool.{cases_Bool, cases_lt, or_parts, eqb-false, ltb-false}
use Rattle.std.proofs.lemmas.Bool.Decides.{nat_tests}
use Rattle.std.proofs.lemmas.List.{append-nil, length-take, length-drop, map_push}
use Rattle.std.proofs.lemmas.List.Elements.{All-nil, All-push, recursion_from_All}
use Rattle.std.proofs.lemmas.List.Folds.{list_any-append}
use Rattle.std.specs.List.{AllByRecursion, enumerate_from, filter, list_any}
use Rattle.uf2_image.specs.declared.fault.ImageFault.{ImageFault}
use Rattle.uf2_image.specs.declared.fault.ImageFault.TheVariants.{Address, Count, Flash, Number, Overlap, Payload, Repeat}
use Rattle.uf2_image.specs.Uf2.{any_address, block_at, block_fault, count_of, first_fault, first_kept, first_of, has_number, number_of, is_flash, is_kept, is_loaded, is_sram, kept, kept_fault, loaded, pairs, part_of, payload_of, size_of, target_of}
use Rattle.uf2_image.specs.Reading.{AreApart, AreSpread, CanBePlaced, HasPayload, IsSolid}
use Rattle.uf2_image.proofs.Files.{first_fault_suc, kept_more}
use Rattle.uf2_image.proofs.Loading.{row_has_long}
use Rattle.uf2_image.proofs.Placing.{All-fold, CanBePlaced-push}
use Rattle.uf2_image.proofs.Ranges.{any_outside_sram, length_payload}

-- ## What a block without a fault has

if_none : (b : Bool) (fault : ImageFault) (rest : Option ImageFault) → cond b (Some fault) rest ≡ None → (b ≡ false) × (rest ≡ None)
if_none true fault rest h = cc
if_none false fault rest h = (refl, h)

first_of_none : (x y : Option ImageFault) → first_of x y ≡ None → (x ≡ None) × (y ≡ None)
first_of_none (Some fault) y h = cc
first_of_none None y h = (refl, h)

-- what the tests of a kept block without a fault say
record Passes (earlier : List (List ℕ)) (block : List ℕ) : Type 0 where
  sized : (eqb (size_of block) 0 || ltb 476 (size_of block)) ≡ false
  inside : any_address (λ address. not (is_sram address)) block ≡ false
  apart : any_address (is_loaded earlier) block ≡ false

first_three : (a b c : Bool) (s t u : ImageFault) (rest : Option ImageFault) → cond a (Some s) (cond b (Some t) (cond c (Some u) rest)) ≡ None → (a ≡ false) × (rest ≡ None)
first_three a b c s t u rest h =
    let p = if_none a s (cond b (Some t) (cond c (Some u) rest)) h in
    let q = if_none b t (cond c (Some u) rest) p.1 in
    (p.0, (if_none c u rest q.1).1)

last_two : (a b c d : Bool) (s t u v : ImageFault) → cond a (Some s) (cond b (Some t) (cond c (Some u) (cond d (Some v) None))) ≡ None → (c ≡ false) × (d ≡ false)
last_two a b c d s t u v h =
    let p = if_none a s (cond b (Some t) (cond c (Some u) (cond d (Some v) None))) h in
    let q = if_none b t (cond c (Some u) (cond d (Some v) None)) p.1 in
    let r = if_none c u (cond d (Some v) None) q.1 in
    (r.0, (if_none d v None r.1).0)

passes : (earlier : List (List ℕ)) (k : ℕ) (block : List ℕ) → kept_fault earlier k block ≡ None → Passes earlier block
unfolding kept_fault
passes earlier k block h =
    let front = first_three (eqb (size_of block) 0 || ltb 476 (size_of block)) (eqb (count_of block) 0 || not (eqb (count_of block) (count_of (first_kept earlier block)))) (leb (count_of block) (number_of block))
    (Payload k (size_of block)) (Count k) (Number k) (cond (has_number earlier (number_of block)) (Some (Repeat k)) (cond (any_address is_flash block) (Some (Flash k (target_of block)))
    (cond (any_address (λ address. not (is_sram address)) block) (Some (Address k (target_of block))) (cond (any_address (is_loaded earlier) block) (Some (Overlap k)) None)))) h in
    let back = last_two (has_number earlier (number_of block)) (any_address is_flash block) (any_address (λ address. not (is_sram address)) block) (any_address (is_loaded earlier) block)
    (Repeat k) (Flash k (target_of block)) (Address k (target_of block)) (Overlap k) front.1 in
    record { sized = front.0; inside = back.0; apart = back.1 }

has_payload : (block : List ℕ) → length block ≡ 512 → (eqb (size_of block) 0 || ltb 476 (size_of block)) ≡ false → HasPayload block
has_payload block long h =
    let p = or_parts _ _ h in
    let full : size_of block ≡ 0 → ⊥ = eqb-false (size_of block) 0 p.0 in
    record { some = omega arith; room = ltb-false 476 (size_of block) p.1; long = long }

is_solid : (block : List ℕ) → HasPayload block → any_address (λ address. not (is_sram address)) block ≡ false → IsSolid (part_of block)
is_solid block h outside =
    let p = or_parts _ _ (sym (any_outside_sram block h) ∙ outside) in
    record {
      some = omega (arith, length_payload block h, h.some);
      start = ltb-false (target_of block) 0x20000000 p.0;
      finish = omega (arith, length_payload block h, ltb-false 0x20042000 (target_of block + size_of block) p.1);
    }

-- ## Blocks that load no byte twice are apart

none_at : (f : ℕ → Bool) (t : ℕ) (xs : List ℕ) → list_any (λ pair. f pair.0) (enumerate_from t xs) ≡ false → (a : ℕ) → t ≤ a → a < t + length xs → f a ≡ false
none_at f t [] h a from to = absurd (omega arith)
none_at f t (x ∷ xs) h a from to =
    let p = or_parts (f t) (list_any (λ pair. f pair.0) (enumerate_from (t + 1) xs)) h in
    elim (cases_lt t a) [
      | inl above ↦ none_at f (t + 1) xs p.1 a (omega arith) (omega arith)
      | inr here ↦ (let same : a ≡ t = omega arith in ap f same ∙ p.0)
    ]

not_loaded : (bs : List (List ℕ)) (b : List ℕ) → HasPayload b → any_address (is_loaded bs) b ≡ false → (a : ℕ) → target_of b ≤ a → a < target_of b + size_of b → is_loaded bs a ≡ false
unfolding any_address
not_loaded bs b h none a from to = none_at (is_loaded bs) (target_of b) (payload_of b) none a from (omega (arith, length_payload b h))

is_loaded-cons : (e : List ℕ) (es : List (List ℕ)) (a : ℕ) → HasPayload e → is_loaded (e ∷ es) a ≡ ((leb (target_of e) a && ltb a (target_of e + size_of e)) || is_loaded es a)
unfolding is_loaded
is_loaded-cons e es a h =
    list_any-append (λ pair. eqb pair.0 a) (pairs e) (loaded es)
    ∙ ap (λ x. x || is_loaded es a) (row_has_long a (target_of e) (size_of e) (payload_of e) (length_payload e h))

pub apart_rows : (t n s m : ℕ) → 0 < n → 0 < m → ((a : ℕ) → t ≤ a → a < t + n → (leb s a && ltb a (s + m)) ≡ false) → ((t < s) × (t + n ≤ s)) ⊎ ((s < t) × (s + m ≤ t))
apart_rows t n s m p q none = elim (cases_lt s t) [
  | inl below ↦ inr (below, before s m t below (none t (omega arith) (omega arith)))
  | inr above ↦ elim (cases_lt s (t + n)) [
    | inl within ↦ absurd (itself s m q (none s above within))
    | inr behind ↦ inl (omega arith, behind)
  ]
]
  where
    before : (s m t : ℕ) → s < t → (leb s t && ltb t (s + m)) ≡ false → s + m ≤ t
    before s m t lt h = grind (arith, nat_tests)

    itself : (s m : ℕ) → 0 < m → (leb s s && ltb s (s + m)) ≡ false → ⊥
    itself s m lt h = grind (arith, nat_tests)

apart_parts : (b e : List ℕ) → HasPayload b → HasPayload e → ((a : ℕ) → target_of b ≤ a → a < target_of b + size_of b → (leb (target_of e) a && ltb a (target_of e + size_of e)) ≡ false) → AreApart (part_of b) (part_of e)
apart_parts b e hb he none = elim (apart_rows (target_of b) (size_of b) (target_of e) (size_of e) hb.some he.some none) [
  | inl before ↦ inl (before.0, omega (arith, before.1, length_payload b hb))
  | inr behind ↦ inr (behind.0, omega (arith, behind.1, length_payload e he))
]

all_apart : (es : List (List ℕ)) (b : List ℕ) → AllByRecursion HasPayload es → HasPayload b → ((a : ℕ) → target_of b ≤ a → a < target_of b + size_of b → is_loaded es a ≡ false) → AllByRecursion (AreApart (part_of b)) (map part_of es)
all_apart [] b all h none = tt
all_apart (e ∷ es) b all h none =
    let each = λ (a : ℕ) (from : target_of b ≤ a) (to : a < target_of b + size_of b). or_parts (leb (target_of e) a && ltb a (target_of e + size_of e)) (is_loaded es a) (sym (is_loaded-cons e es a all.0) ∙ none a from to) in
    (apart_parts b e h all.0 (λ a from to. (each a from to).0), all_apart es b all.1 h (λ a from to. (each a from to).1))

-- ## One block more

spread_push : (bs : List (List ℕ)) (k : ℕ) (b : List ℕ) → AreSpread bs → length b ≡ 512 → kept_fault bs k b ≡ None → AreSpread (bs ++ b ∷ [])
spread_push bs k b spread long none =
    let tests = passes bs k b none in
    let payload : HasPayload b = has_payload b long tests.sized in
    let solid : IsSolid (part_of b) = is_solid b payload tests.inside in
    let apart = all_apart bs b (recursion_from_All HasPayload bs spread.payloads) payload (not_loaded bs b payload tests.apart) in
    record {
      payloads = All-push HasPayload bs b spread.payloads payload;
      parts = subst (λ ps. CanBePlaced [] ps) (sym (map_push part_of bs b)) (CanBePlaced-push [] (map part_of bs) (part_of b) spread.parts solid (All-fold (AreApart (part_of b)) [] (map part_of bs) tt apart));
    }

kept_none : (bs : List (List ℕ)) (k : ℕ) (b : List ℕ) → is_kept b ≡ true → block_fault bs k b ≡ None → kept_fault bs k b ≡ None
unfolding block_fault
kept_none bs k b is h =
    let magic = if_none _ _ _ h in
    sym (ap (λ x. cond (not x) None (kept_fault bs k b)) is) ∙ magic.1

pub spread_step : (bs : List (List ℕ)) (k : ℕ) (b : List ℕ) → AreSpread bs → length b ≡ 512 → block_fault bs k b ≡ None → AreSpread (bs ++ filter is_kept (b ∷ []))
spread_step bs k b spread long none = elim (cases_Bool (is_kept b)) [
  | inl is ↦ subst (λ (x : Bool). AreSpread (bs ++ cond x (b ∷ []) [])) (sym is) (spread_push bs k b spread long (kept_none bs k b is none))
  | inr is_not ↦ subst (λ (x : Bool). AreSpread (bs ++ cond x (b ∷ []) [])) (sym is_not) (subst (λ (xs : List (List ℕ)). AreSpread xs) (sym (append-nil bs)) spread)
]

length_block : (bytes : List ℕ) (k : ℕ) → suc k * 512 ≤ length bytes → length (block_at bytes k) ≡ 512
length_block bytes k h = simp (length-take, length-drop) (omega arith)

-- the kept blocks of a file whose blocks have no fault
pub spread_kept : (bytes : List ℕ) (n : ℕ) → n * 512 ≤ length bytes → first_fault bytes n ≡ None → AreSpread (kept bytes n)
unfolding kept
spread_kept bytes zero h none = record { payloads = All-nil HasPayload; parts = tt }
spread_kept bytes (suc k) h none =
    let both = first_of_none (first_fault bytes k) (block_fault (kept bytes k) k (block_at bytes k)) (sym (first_fault_suc bytes k) ∙ none) in
    let more : k + 1 ≡ suc k = omega arith in
    subst (λ (bs : List (List ℕ)). AreSpread bs) (sym (kept_more bytes k) ∙ ap (kept bytes) more)
    (spread_step (kept bytes k) k (block_at bytes k) (spread_kept bytes k (omega arith) both.0) (length_block bytes k h) both.1)

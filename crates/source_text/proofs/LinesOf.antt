-- Parts and lines, one after the other.
use Rattle.std.proofs.Common.{◌≡◌, ◌≤◌, ◌<◌, ℕ, ◌+◌, nat_lt, Bool, true, false, cond, ◌==◌, List, [], ◌∷◌, length, take, drop, Some, None, inl, inr, refl, sym, ap, ◌∙◌, arith}
use Rattle.std.proofs.lemmas.Bool.{cases_Bool}
use Rattle.std.proofs.lemmas.Bool.Decides.{nat_tests}
use Rattle.std.proofs.lemmas.List.Splits.{slice_split_first}
use Rattle.std.specs.List.{slice_split, onto_first, position, position_or_len}
use Rattle.std.specs.Str.Lines.{lines, lines_of_parts, strip_carriage_return}

-- there is always a part
some_part : (p : ℕ → Bool) (xs : List ℕ) → (q : List ℕ) × (qs : List (List ℕ)) × (slice_split p xs ≡ q ∷ qs)
some_part p [] = ([], [], refl)
some_part p (x ∷ xs) =
    elim (p x) as (λ b. (q : List ℕ) × (qs : List (List ℕ)) × (cond b ([] ∷ slice_split p xs) (onto_first x (slice_split p xs)) ≡ q ∷ qs)) [
      | true ↦ ([], slice_split p xs, refl)
      | false ↦ let rest = some_part p xs in (x ∷ rest.0, rest.1, ap (onto_first x) rest.2)
    ]

some_place : (m n i : ℕ) → cond (nat_lt m n) (Some m) None ≡ Some i → (m < n) × (m ≡ i)
some_place m n i h = elim (cases_Bool (nat_lt m n)) [
  | inl is ↦ (grind (arith, nat_tests), let found = rw is at h in cc)
  | inr not_so ↦ absurd (let lost = rw not_so at h in cc)
]

no_place : (m n : ℕ) → cond (nat_lt m n) (Some m) None ≡ None → n ≤ m
no_place m n h = elim (cases_Bool (nat_lt m n)) [
  | inl is ↦ absurd (let found = rw is at h in cc)
  | inr not_so ↦ grind (arith, nat_tests)
]

-- a list is its first part where no element ends it
whole : (p : ℕ → Bool) (xs : List ℕ) → length xs ≤ position_or_len p xs → slice_split p xs ≡ xs ∷ []
whole p [] h = refl
whole p (x ∷ xs) h = elim (cases_Bool (p x)) [
  | inl is ↦ absurd (let none = rw is at h in omega arith)
  | inr not_so ↦ let more = rw not_so at h in rw not_so (ap (onto_first x) (whole p xs (omega arith)))
]

pub split_none : (p : ℕ → Bool) (xs : List ℕ) → position p xs ≡ None → slice_split p xs ≡ xs ∷ []
split_none p xs h = whole p xs (no_place _ _ h)

pub split_some : (p : ℕ → Bool) (xs : List ℕ) (i : ℕ) → position p xs ≡ Some i → slice_split p xs ≡ take i xs ∷ slice_split p (drop (i + 1) xs)
split_some p xs i h =
    let place = some_place (position_or_len p xs) (length xs) i h in
    slice_split_first p xs 0 place.0 ∙ ap (λ k. take k xs ∷ slice_split p (drop (k + 1) xs)) place.1

-- what a test of the parts gives where more of them do not count
pub past : {X : Type 0} (f : List (List ℕ) → X) (none : X) (p : ℕ → Bool) (rest : List ℕ) →
    ((q : List ℕ) (qs : List (List ℕ)) → f (q ∷ qs) ≡ none) → f (slice_split p rest) ≡ none
past f none p rest h = let more = some_part p rest in ap f more.2 ∙ h more.0 more.1

pub first_line : (bytes line rest : List ℕ) → slice_split (λ x. x == 10) bytes ≡ line ∷ slice_split (λ x. x == 10) rest
    → lines bytes ≡ strip_carriage_return line ∷ lines rest
first_line bytes line rest h =
    let more = some_part (λ x. x == 10) rest in
    ap lines_of_parts (h ∙ ap (λ parts. line ∷ parts) more.2) ∙ sym (ap (λ parts. strip_carriage_return line ∷ lines_of_parts parts) more.2)

pub last_line : (bytes : List ℕ) → slice_split (λ x. x == 10) bytes ≡ bytes ∷ [] → 0 < length bytes → lines bytes ≡ bytes ∷ lines []
last_line bytes h some =
    let full : (length bytes == 0) ≡ false = grind (arith, nat_tests) in
    ap lines_of_parts h ∙ rw full refl

-- A list in order of its cycles, of which each cycle has its entries in one order, is one list.
use Rattle.std.proofs.Common.{◌≡◌, ◌≤◌, ◌<◌, ℕ, suc, ◌==◌, nat_le, nat_lt, Bool, true, false, not, ◌&&◌, cond, List, [], ◌∷◌, length, get_or, drop, map, inl, inr, ◌⊎◌, refl, sym, ap, ◌∙◌, arith}
use Rattle.std.proofs.lemmas.Bool.{cases_Bool, eq-eqb, ne_eqb, cases_eq}
use Rattle.std.proofs.lemmas.Bool.Decides.{nat_tests}
use Rattle.std.proofs.lemmas.List.Elements.{All-head, All-tail}
use Rattle.std.specs.List.{filter}
use Rattle.std.specs.List.Sorted.{IsNonDecreasingBy, IsStableByKey, ties}
use Rattle.std.specs.Ordering.{is_lt, nat_cmp}
use Rattle.pin_script.specs.declared.entry.Level.TheVariants.{Low}
use Rattle.pin_script.specs.declared.entry.LineEntry.{LineEntry}
use Rattle.pin_script.specs.Reading.{HasPins}
use Rattle.pin_script.specs.Script.{in_order, inserted, without_line, IsScript, IsScriptFrom}

abbrev is_at : ℕ → LineEntry → Bool
is_at cycle e = e.cycle == cycle

-- the cycles do not fall from this one on
abbrev pub UpFrom : ℕ → List LineEntry → Type 0
UpFrom low [] = Unit {0}
UpFrom low (e ∷ es) = (low ≤ e.cycle) × UpFrom e.cycle es

-- ---- insertion

pub is_le : (m n : ℕ) → nat_le m n ≡ true → m ≤ n
is_le m n h = grind (arith, nat_tests)

pub is_gt : (m n : ℕ) → nat_le m n ≡ false → n < m
is_gt m n h = grind (arith, nat_tests)

inserted-up : (low : ℕ) (e : LineEntry) (xs : List LineEntry) → low ≤ e.cycle → UpFrom low xs → UpFrom low (inserted e xs)
inserted-up low e [] h u = (h, tt)
inserted-up low e (x ∷ xs) h u = elim (cases_Bool (nat_le e.cycle x.cycle)) [
  | inl is ↦ rw is (h, (is_le e.cycle x.cycle is, u.1))
  | inr later ↦ let after = is_gt e.cycle x.cycle later in rw later (u.0, inserted-up x.cycle e xs (omega arith) u.1)
]

pub in_order-up : (xs : List LineEntry) → UpFrom 0 (in_order xs)
unfolding in_order
in_order-up [] = tt
in_order-up (x ∷ xs) = inserted-up 0 x (in_order xs) (omega arith) (in_order-up xs)

-- of two entries that are not both kept the order does not matter
apart : (a b : Bool) (x y : LineEntry) (l : List LineEntry) → (a ≡ true → b ≡ true → ⊥) →
    cond b (y ∷ cond a (x ∷ l) l) (cond a (x ∷ l) l) ≡ cond a (x ∷ cond b (y ∷ l) l) (cond b (y ∷ l) l)
apart true true x y l h = absurd (h refl refl)
apart true false x y l h = refl
apart false true x y l h = refl
apart false false x y l h = refl

not_both : (m n c : ℕ) → n < m → (m == c) ≡ true → (n == c) ≡ true → ⊥
not_both m n c h i j = grind (arith, nat_tests)

inserted-at : (c : ℕ) (e : LineEntry) (xs : List LineEntry) → filter (is_at c) (inserted e xs) ≡ filter (is_at c) (e ∷ xs)
inserted-at c e [] = refl
inserted-at c e (x ∷ xs) = elim (cases_Bool (nat_le e.cycle x.cycle)) [
  | inl is ↦ rw is refl
  | inr later ↦
      rw later
      (ap (λ l. cond (is_at c x) (x ∷ l) l) (inserted-at c e xs)
      ∙ apart (is_at c e) (is_at c x) e x (filter (is_at c) xs) (not_both e.cycle x.cycle c (is_gt e.cycle x.cycle later)))
]

in_order-at : (c : ℕ) (xs : List LineEntry) → filter (is_at c) (in_order xs) ≡ filter (is_at c) xs
unfolding in_order
in_order-at c [] = refl
in_order-at c (x ∷ xs) = inserted-at c x (in_order xs) ∙ ap (λ l. cond (is_at c x) (x ∷ l) l) (in_order-at c xs)

-- ---- one list

kept : (c : ℕ) (x : LineEntry) (xs : List LineEntry) → x.cycle ≡ c → filter (is_at c) (x ∷ xs) ≡ x ∷ filter (is_at c) xs
kept c x xs h = let yes : (x.cycle == c) ≡ true = eq-eqb x.cycle c h in rw yes refl

dropped : (c : ℕ) (x : LineEntry) (xs : List LineEntry) → (x.cycle ≡ c → ⊥) → filter (is_at c) (x ∷ xs) ≡ filter (is_at c) xs
dropped c x xs h = let no : (x.cycle == c) ≡ false = ne_eqb x.cycle c h in rw no refl

none_before : (low c : ℕ) (xs : List LineEntry) → UpFrom low xs → c < low → filter (is_at c) xs ≡ []
none_before low c [] u h = refl
none_before low c (x ∷ xs) u h =
    let from : low ≤ x.cycle = u.0 in
    dropped c x xs (λ e. omega (arith, e)) ∙ none_before x.cycle c xs u.1 (omega arith)

compare : (m n : ℕ) → (m < n) ⊎ ((m ≡ n) ⊎ (n < m))
compare m n = grind arith

no_first : (x : LineEntry) (l : List LineEntry) → x ∷ l ≡ [] → ⊥
no_first x l e = let long = ap length e in omega (arith, long)

unique : (low low' : ℕ) (xs ys : List LineEntry) → UpFrom low xs → UpFrom low' ys →
    ((c : ℕ) → filter (is_at c) xs ≡ filter (is_at c) ys) → xs ≡ ys
unique low low' [] [] u v h = refl
unique low low' [] (y ∷ ys) u v h = absurd (no_first y (filter (is_at y.cycle) ys) (sym (kept y.cycle y ys refl) ∙ sym (h y.cycle)))
unique low low' (x ∷ xs) [] u v h = absurd (no_first x (filter (is_at x.cycle) xs) (sym (kept x.cycle x xs refl) ∙ h x.cycle))
unique low low' (x ∷ xs) (y ∷ ys) u v h = elim (compare x.cycle y.cycle) [
  | inl less ↦ absurd
      (no_first x (filter (is_at x.cycle) xs)
      (sym (kept x.cycle x xs refl) ∙ h x.cycle ∙ none_before y.cycle x.cycle (y ∷ ys) ((omega arith, v.1)) less))
  | inr (inr more) ↦ absurd
      (no_first y (filter (is_at y.cycle) ys)
      (sym (kept y.cycle y ys refl) ∙ sym (h y.cycle) ∙ none_before x.cycle y.cycle (x ∷ xs) ((omega arith, u.1)) more))
  | inr (inl same) ↦
      let heads : x ∷ filter (is_at x.cycle) xs ≡ y ∷ filter (is_at x.cycle) ys =
      sym (kept x.cycle x xs refl) ∙ h x.cycle ∙ kept x.cycle y ys (sym same)
      in
      let first : x ≡ y = ap (λ l. get_or l 0 x) heads in
      let rest : xs ≡ ys =
      unique x.cycle y.cycle xs ys u.1 v.1 (λ c. elim (cases_eq x.cycle c) [
        | inl here ↦ ap (λ k. filter (is_at k) xs) (sym here) ∙ ap (drop 1) heads ∙ ap (λ k. filter (is_at k) ys) here
        | inr other ↦ sym (dropped c x xs other) ∙ h c ∙ dropped c y ys (λ e. other (same ∙ e))
      ])
      in
      ap (λ z. z ∷ xs) first ∙ ap (λ l. y ∷ l) rest
]

-- ---- a stable sort

up_of : (low : ℕ) (ys : List LineEntry) → ((d : LineEntry) → 0 < length ys → low ≤ (get_or ys 0 d).cycle) → IsNonDecreasingBy (λ (e : LineEntry). e.cycle) ys → UpFrom low ys
up_of low [] first up = tt
up_of low (y ∷ ys) first up = (
  first y (omega arith),
  up_of y.cycle ys (λ d lt. up 0 1 d (omega arith) (omega arith)) (λ i j d le lt. up (suc i) (suc j) d (omega arith) (omega arith)),
)

abbrev is_less : ℕ → ℕ → Bool
is_less m n = is_lt (nat_cmp m n)

tie : (m n : ℕ) → (not (is_less m n) && not (is_less n m)) ≡ (n == m)
tie m n = elim (compare m n) [
  | inl less ↦
      let a : nat_lt m n ≡ true = grind (arith, nat_tests) in
      let b : (n == m) ≡ false = grind (arith, nat_tests) in
      rw (a, b) refl
  | inr (inl same) ↦
      let a : nat_lt m n ≡ false = grind (arith, nat_tests) in
      let b : nat_lt n m ≡ false = grind (arith, nat_tests) in
      let c : (m == n) ≡ true = grind (arith, nat_tests) in
      let d : (n == m) ≡ true = grind (arith, nat_tests) in
      rw (a, b, c, d) refl
  | inr (inr more) ↦
      let a : nat_lt m n ≡ false = grind (arith, nat_tests) in
      let b : nat_lt n m ≡ true = grind (arith, nat_tests) in
      let c : (n == m) ≡ false = grind (arith, nat_tests) in
      let d : (m == n) ≡ false = grind (arith, nat_tests) in
      rw (a, b, c, d) refl
]

abbrev lone : ℕ → LineEntry
lone c = record { cycle = c; line = 0; pin = 0; level = Low }

by_ties : (c : ℕ) (ys : List LineEntry) →
    filter (ties (λ (a b : LineEntry). is_lt (nat_cmp a.cycle b.cycle)) (lone c)) ys ≡ filter (is_at c) ys
by_ties c ys = λ i. filter (λ (y : LineEntry). tie c y.cycle i) ys

pub sorted_is : (xs ys : List LineEntry) → IsNonDecreasingBy (λ (e : LineEntry). e.cycle) ys →
    IsStableByKey (λ (e : LineEntry). e.cycle) nat_cmp xs ys → ys ≡ in_order xs
sorted_is xs ys up stable =
    unique 0 0 ys (in_order xs) (up_of 0 ys (λ d lt. omega arith) up) (in_order-up xs)
    (λ c. sym (by_ties c ys) ∙ stable (lone c) ∙ by_ties c xs ∙ sym (in_order-at c xs))

-- ---- a script

script_from : (low : ℕ) (ys : List LineEntry) → UpFrom low ys → HasPins ys → IsScriptFrom low (map without_line ys)
script_from low [] u pins = tt
script_from low (y ∷ ys) u pins = (
  u.0,
  All-head (λ (e : LineEntry). e.pin < 30) y ys pins,
  script_from y.cycle ys u.1 (All-tail (λ (e : LineEntry). e.pin < 30) y ys pins),
)

pub in_order_is_script : (xs : List LineEntry) → HasPins (in_order xs) → IsScript (map without_line (in_order xs))
in_order_is_script xs pins = script_from 0 (in_order xs) (in_order-up xs) pins

-- The least member of a set is a member that no member precedes.
use Rattle.std.proofs.Common.{ap, sym, ◌≢◌, ◌^◌, ◌≡◌, ℕ, zero, suc, ◌+◌, ◌-◌, ◌<◌, ◌≤◌, Bool, true, false, ◌||◌, ◌&&◌, ◌==◌, ◌∙◌, nat_lt, ℤ, List, ◌∷◌, refl, subst, cond, inl, inr, ◌⊎◌, arith, Option, Some, None}
use Rattle.std.specs.Prelude.{filter, int_lt}
use Rattle.std.specs.Ordering.{int_eq}
use Rattle.std.proofs.lemmas.Grind.{common_steps}
use Rattle.std.proofs.lemmas.Int.{ints}
use Rattle.std.proofs.lemmas.Nat.{and_le_l}
use Rattle.std.specs.Int.{bit_at, w64, trailing_zeros}
use Rattle.std.proofs.lemmas.Nat.Bits.{bit_at-lt, bit_at-pow_same, bit_at-pow_other, bit_at-trailing_zeros}
use Rattle.std.proofs.lemmas.Bool.Decides.{nat_tests, Decides-int_eq}
use Rattle.rp_base.specs.Word.{has_bit}
use Rattle.m0_nvic.specs.State.{State}
use Rattle.m0_nvic.specs.Numbers.{numbers_from, numbers, is_member, minus}
use Rattle.m0_nvic.proofs.Held.{minus_at, pow_fits}
use Rattle.m0_nvic.specs.Priority.{rank_of, precedes, nearer, least, least_of, IsLeast}

-- the order of pairs of priority and number
abbrev before : ℤ → ℕ → ℤ → ℕ → Bool
before a n b m = int_lt a b || (int_eq a b && nat_lt n m)

before-self : (a : ℤ) (n : ℕ) → before a n a n ≡ false
before-self a n = grind (arith, ints, nat_tests, Decides-int_eq)

before-asym : (a : ℤ) (n : ℕ) (b : ℤ) (m : ℕ) → before a n b m ≡ true → before b m a n ≡ false
before-asym a n b m h = grind (arith, ints, nat_tests, Decides-int_eq)

before-trans : (a : ℤ) (n : ℕ) (b : ℤ) (m : ℕ) (c : ℤ) (k : ℕ) →
    before a n b m ≡ false → before b m c k ≡ false → before a n c k ≡ false
before-trans a n b m c k h i = grind (arith, ints, nat_tests, Decides-int_eq)

precedes-self : (s : State) (n : ℕ) → precedes s n n ≡ false
precedes-self s n = before-self (rank_of s n) n

precedes-asym : (s : State) (n m : ℕ) → precedes s n m ≡ true → precedes s m n ≡ false
precedes-asym s n m h = before-asym (rank_of s n) n (rank_of s m) m h

precedes-trans : (s : State) (n m k : ℕ) → precedes s n m ≡ false → precedes s m k ≡ false → precedes s n k ≡ false
precedes-trans s n m k h i = before-trans (rank_of s n) n (rank_of s m) m (rank_of s k) k h i

-- the least of the members among so many numbers from a first one on
record IsLeastAt (s : State) (set a c m : ℕ) : Type 0 where
  low : a ≤ m
  high : m < a + c
  bit : has_bit set m ≡ true
  least : (n : ℕ) → a ≤ n → n < a + c → has_bit set n ≡ true → precedes s n m ≡ false

abbrev IsLeastFrom : State → ℕ → ℕ → ℕ → Option ℕ → Type 0
IsLeastFrom s set a c None = (n : ℕ) → a ≤ n → n < a + c → has_bit set n ≡ false
IsLeastFrom s set a c (Some m) = IsLeastAt s set a c m

-- a number is the first, or after it
first_or_after : (a n : ℕ) → a ≤ n → (a ≡ n) ⊎ (a + 1 ≤ n)
first_or_after a n h = grind arith

filter-member : (p : ℕ → Bool) (x : ℕ) (xs : List ℕ) → p x ≡ true → filter p (x ∷ xs) ≡ x ∷ filter p xs
filter-member p x xs e = grind (arith, common_steps)

filter-other : (p : ℕ → Bool) (x : ℕ) (xs : List ℕ) → p x ≡ false → filter p (x ∷ xs) ≡ filter p xs
filter-other p x xs e = grind (arith, common_steps)

none-other : (set a c : ℕ) → has_bit set a ≡ false → ((n : ℕ) → a + 1 ≤ n → n < a + 1 + c → has_bit set n ≡ false) →
    (n : ℕ) → a ≤ n → n < a + suc c → has_bit set n ≡ false
none-other set a c e h n low high =
    elim (first_or_after a n low) [ inl same ↦ subst (λ k. has_bit set k ≡ false) same e | inr after ↦ h n after (omega arith) ]

contrary : {A : Type 0} (b : Bool) → b ≡ true → b ≡ false → A
contrary b h i = absurd (grind (arith, common_steps))

some-other : (s : State) (set a c m : ℕ) → has_bit set a ≡ false → IsLeastAt s set (a + 1) c m →
    IsLeastAt s set a (suc c) m
some-other s set a c m e h = record {
  low = omega (arith, h.low);
  high = omega (arith, h.high);
  bit = h.bit;
  least = λ n low high bit.
      elim (first_or_after a n low) [
        | inl same ↦ contrary (has_bit set n) bit (subst (λ k. has_bit set k ≡ false) same e)
        | inr after ↦ h.least n after (omega arith) bit
      ];
}

some-kept : (s : State) (set a c m : ℕ) → precedes s m a ≡ true → IsLeastAt s set (a + 1) c m →
    IsLeastAt s set a (suc c) m
some-kept s set a c m e h = record {
  low = omega (arith, h.low);
  high = omega (arith, h.high);
  bit = h.bit;
  least = λ n low high bit.
      elim (first_or_after a n low) [
        | inl same ↦ subst (λ k. precedes s k m ≡ false) same (precedes-asym s m a e)
        | inr after ↦ h.least n after (omega arith) bit
      ];
}

some-first : (s : State) (set a c m : ℕ) → has_bit set a ≡ true → precedes s m a ≡ false →
    IsLeastAt s set (a + 1) c m → IsLeastAt s set a (suc c) a
some-first s set a c m here e h = record {
  low = omega arith;
  high = omega arith;
  bit = here;
  least = λ n low high bit.
      elim (first_or_after a n low) [
        | inl same ↦ subst (λ k. precedes s k a ≡ false) same (precedes-self s a)
        | inr after ↦ precedes-trans s n m a (h.least n after (omega arith) bit) e
      ];
}

none-first : (s : State) (set a c : ℕ) → has_bit set a ≡ true →
    ((n : ℕ) → a + 1 ≤ n → n < a + 1 + c → has_bit set n ≡ false) → IsLeastAt s set a (suc c) a
none-first s set a c here h = record {
  low = omega arith;
  high = omega arith;
  bit = here;
  least = λ n low high bit.
      elim (first_or_after a n low) [
        | inl same ↦ subst (λ k. precedes s k a ≡ false) same (precedes-self s a)
        | inr after ↦ contrary (has_bit set n) bit (h n after (omega arith))
      ];
}

from-other : (s : State) (set a c : ℕ) (o : Option ℕ) → has_bit set a ≡ false → IsLeastFrom s set (a + 1) c o →
    IsLeastFrom s set a (suc c) o
from-other s set a c None e h = none-other set a c e h
from-other s set a c (Some m) e h = some-other s set a c m e h

from-two : (s : State) (set a c m : ℕ) (b : Bool) → precedes s m a ≡ b → has_bit set a ≡ true →
    IsLeastAt s set (a + 1) c m → IsLeastFrom s set a (suc c) (cond b (Some m) (Some a))
from-two s set a c m true e here h = some-kept s set a c m e h
from-two s set a c m false e here h = some-first s set a c m here e h

from-member : (s : State) (set a c : ℕ) (o : Option ℕ) → has_bit set a ≡ true → IsLeastFrom s set (a + 1) c o →
    IsLeastFrom s set a (suc c) (nearer s a o)
from-member s set a c None here h = none-first s set a c here h
from-member s set a c (Some m) here h = from-two s set a c m (precedes s m a) refl here h

from-step : (s : State) (set a c : ℕ) (ns : List ℕ) (b : Bool) → has_bit set a ≡ b →
    IsLeastFrom s set (a + 1) c (least s (filter (has_bit set) ns)) →
    IsLeastFrom s set a (suc c) (least s (filter (has_bit set) (a ∷ ns)))
from-step s set a c ns true e h =
    rw (filter-member (has_bit set) a ns e) (from-member s set a c (least s (filter (has_bit set) ns)) e h)
from-step s set a c ns false e h =
    rw (filter-other (has_bit set) a ns e) (from-other s set a c (least s (filter (has_bit set) ns)) e h)

least_from : (s : State) (set a c : ℕ) → IsLeastFrom s set a c (least s (filter (has_bit set) (numbers_from a c)))
least_from s set a zero = λ n low high. absurd (omega arith)
least_from s set a (suc c) = from-step s set a c (numbers_from (a + 1) c) (has_bit set a) refl (least_from s set (a + 1) c)

least_whole : (s : State) (set : ℕ) → IsLeastFrom s set 0 48 (least_of s set)
unfolding least_of numbers
least_whole s set = least_from s set 0 48

below_or : (n : ℕ) → (n < 48) ⊎ (48 ≤ n)
below_or n = grind arith

is_member-false : (n set : ℕ) → (n < 48 → has_bit set n ≡ false) → is_member n set ≡ false
is_member-false n set h = elim (below_or n) [ inl low ↦ rw (h low) (grind (arith, nat_tests, common_steps)) | inr high ↦ grind (arith, nat_tests, common_steps) ]

is_member-within : (n set : ℕ) → is_member n set ≡ true → n < 48
is_member-within n set h = grind (arith, nat_tests, common_steps)

is_member-bit : (n set : ℕ) → is_member n set ≡ true → has_bit set n ≡ true
is_member-bit n set h = grind (arith, nat_tests, common_steps)

is_member-true : (n set : ℕ) → n < 48 → has_bit set n ≡ true → is_member n set ≡ true
is_member-true n set h bit = grind (arith, nat_tests, common_steps)

whole : (s : State) (set : ℕ) (o : Option ℕ) → IsLeastFrom s set 0 48 o → IsLeast s set o
whole s set None h = λ n. is_member-false n set (λ low. h n (omega arith) (omega arith))
whole s set (Some m) h = (
  is_member-true m set (omega (arith, h.high)) h.bit,
  λ n member. h.least n (omega arith) (omega (arith, is_member-within n set member)) (is_member-bit n set member),
)

-- what is found is the least member
pub least_of-is : (s : State) (set : ℕ) → IsLeast s set (least_of s set)
least_of-is s set = whole s set (least_of s set) (least_whole s set)

before-equal : (a : ℤ) (n : ℕ) (b : ℤ) (m : ℕ) → before a n b m ≡ false → before b m a n ≡ false → n ≡ m
before-equal a n b m h i = grind (arith, ints, nat_tests, Decides-int_eq)

-- there is one least member
only_one : (s : State) (set : ℕ) (o p : Option ℕ) → IsLeast s set o → IsLeast s set p → o ≡ p
only_one s set None None h i = refl
only_one s set None (Some n) h i = contrary (is_member n set) i.0 (h n)
only_one s set (Some m) None h i = contrary (is_member m set) h.0 (i m)
only_one s set (Some m) (Some n) h i =
    ap Some (before-equal (rank_of s m) m (rank_of s n) n (i.1 m h.0) (h.1 n i.0))

-- ---- the least member, by a member and the others

eq_or_ne : (n k : ℕ) → (n ≡ k) ⊎ (n ≢ k)
eq_or_ne n k = grind arith

others-other : (set k n : ℕ) → k < 48 → n < 48 → n ≢ k → has_bit (minus set (2 ^ k)) n ≡ has_bit set n
others-other set k n fits low ne =
    let same : bit_at (minus set (2 ^ k)) n ≡ bit_at set n =
    omega (arith, minus_at set (2 ^ k) n (pow_fits k (omega arith)) (omega arith), bit_at-pow_other k n ne, bit_at-lt set n) in
    ap (λ b. b == 1) same

others-none : (set k : ℕ) → k < 48 → bit_at (minus set (2 ^ k)) k ≡ 0
others-none set k fits = omega (arith, minus_at set (2 ^ k) k (pow_fits k (omega arith)) (omega arith), bit_at-pow_same k)

others-self : (set k : ℕ) → k < 48 → has_bit (minus set (2 ^ k)) k ≡ false
others-self set k fits = ap (λ b. b == 1) (others-none set k fits)

member-or : (set k n : ℕ) → k < 48 → is_member n set ≡ true → (n ≡ k) ⊎ (is_member n (minus set (2 ^ k)) ≡ true)
member-or set k n fits h =
    let low = is_member-within n set h in
    elim (eq_or_ne n k) [
      | inl same ↦ inl same
      | inr other ↦ inr (is_member-true n (minus set (2 ^ k)) low (others-other set k n fits low other ∙ is_member-bit n set h))
    ]

member-back : (set k n : ℕ) → k < 48 → is_member n (minus set (2 ^ k)) ≡ true → is_member n set ≡ true
member-back set k n fits h =
    let low = is_member-within n (minus set (2 ^ k)) h in
    let bit = is_member-bit n (minus set (2 ^ k)) h in
    elim (eq_or_ne n k) [
      | inl same ↦
          contrary (has_bit (minus set (2 ^ k)) n) bit (subst (λ i. has_bit (minus set (2 ^ k)) i ≡ false) (sym same) (others-self set k fits))
      | inr other ↦ is_member-true n set low (sym (others-other set k n fits low other) ∙ bit)
    ]

one-more_by : (s : State) (set k m : ℕ) (b : Bool) → precedes s m k ≡ b → k < 48 → has_bit set k ≡ true →
    IsLeast s (minus set (2 ^ k)) (Some m) → IsLeast s set (cond b (Some m) (Some k))
one-more_by s set k m true e fits here h = (
  member-back set k m fits h.0,
  λ n member. elim (member-or set k n fits member) [
    | inl same ↦ subst (λ i. precedes s i m ≡ false) (sym same) (precedes-asym s m k e)
    | inr other ↦ h.1 n other
  ],
)
one-more_by s set k m false e fits here h = (
  is_member-true k set fits here,
  λ n member. elim (member-or set k n fits member) [
    | inl same ↦ subst (λ i. precedes s i k ≡ false) (sym same) (precedes-self s k)
    | inr other ↦ precedes-trans s n m k (h.1 n other) e
  ],
)

one-more : (s : State) (set k : ℕ) (o : Option ℕ) → k < 48 → has_bit set k ≡ true →
    IsLeast s (minus set (2 ^ k)) o → IsLeast s set (nearer s k o)
one-more s set k None fits here h = (
  is_member-true k set fits here,
  λ n member. elim (member-or set k n fits member) [
    | inl same ↦ subst (λ i. precedes s i k ≡ false) (sym same) (precedes-self s k)
    | inr other ↦ contrary (is_member n (minus set (2 ^ k))) other (h n)
  ],
)
one-more s set k (Some m) fits here h = one-more_by s set k m (precedes s m k) refl fits here h

pub least_of-lowest : (s : State) (set : ℕ) → 0 < set → set < 2 ^ 64 → trailing_zeros w64 set < 48 →
    nearer s (trailing_zeros w64 set) (least_of s (minus set (2 ^ trailing_zeros w64 set))) ≡ least_of s set
least_of-lowest s set some fits low =
    let k : ℕ = trailing_zeros w64 set in
    let here : has_bit set k ≡ true = ap (λ b. b == 1) (bit_at-trailing_zeros w64 set some fits).1 in
    only_one s set (nearer s k (least_of s (minus set (2 ^ k)))) (least_of s set)
    (one-more s set k (least_of s (minus set (2 ^ k))) low here (least_of-is s (minus set (2 ^ k)))) (least_of-is s set)

below : (x y k : ℕ) → x ≤ y → bit_at x k ≡ 0 → bit_at y k ≡ 1 → x < y
below x y k le low high =
    elim (eq_or_ne x y) [
      | inl same ↦ let e : bit_at x k ≡ bit_at y k = ap (λ n. bit_at n k) same in absurd (omega arith)
      | inr other ↦ grind arith
    ]

pub others-less : (set : ℕ) → 0 < set → set < 2 ^ 64 → trailing_zeros w64 set < 48 → minus set (2 ^ trailing_zeros w64 set) < set
others-less set some fits low =
    let k : ℕ = trailing_zeros w64 set in
    below (minus set (2 ^ k)) set k (and_le_l set (2 ^ 64 - 1 - 2 ^ k)) (others-none set k low) (bit_at-trailing_zeros w64 set some fits).1

-- a set that has no number of an exception has no least member
pub least_of-high : (s : State) (set : ℕ) → 0 < set → set < 2 ^ 64 → 48 ≤ trailing_zeros w64 set → None ≡ least_of s set
least_of-high s set some fits high =
    only_one s set None (least_of s set)
    (λ n. is_member-false n set (λ low. ap (λ b. b == 1) ((bit_at-trailing_zeros w64 set some fits).2 n (omega arith)))) (least_of-is s set)

pub least_of-empty : (s : State) → None ≡ least_of s 0
unfolding least_of numbers
least_of-empty s = refl

pub ruleset least_laws = (least_of-is)

-- Sums over lists that change at one index, and over the numbers below a bound.
use Rattle.std.proofs.Common.{◌≡◌, ℕ, zero, suc, ◌+◌, ◌<◌, ◌≤◌, ◌≢◌, List, [], ◌∷◌, ◌++◌, length, set, sym, refl, ap, arith, cond, eqb, ltb, eq-eqb, ne_eqb, lt-ltb, le-ltb}
use mathlib.Core.Logic.{dite}
use native.Mathlib.Decide.{ℕ_discrete, dec_le}
use mathlib.Core.Option.{some, some-injective, some-ne-none}
use lib.ListN.{get_elem?}
use Rattle.turn_board.specs.Tickets.{total, times, change}

module _ {A : Type 0} where
  pub change-set : (f : A → A) (l : List A) (i : ℕ) (a : A) → get_elem? l i ≡ some a → change f i l ≡ set l i (f a)
  change-set f [] i a e = refl
  change-set f (x ∷ xs) zero a e = λ k. f (some-injective x a e k) ∷ xs
  change-set f (x ∷ xs) (suc i) a e = λ k. x ∷ change-set f xs i a e k

  module _ (g : A → ℕ) where
    pub total-set : (l : List A) (j : ℕ) (v w : A) → get_elem? l j ≡ some v → total g (set l j w) + g v ≡ total g l + g w
    total-set [] j v w e = absurd (some-ne-none v (sym e))
    total-set (x ∷ xs) zero v w e = omega (arith, ap g (some-injective x v e))
    total-set (x ∷ xs) (suc j) v w e = omega (arith, total-set xs j v w e)

    pub total-snoc : (l : List A) (a : A) → total g (l ++ a ∷ []) ≡ total g l + g a
    total-snoc [] a = omega arith
    total-snoc (x ∷ xs) a = omega (arith, total-snoc xs a)

    pub term_le : (l : List A) (j : ℕ) (v : A) → get_elem? l j ≡ some v → g v ≤ total g l
    term_le [] j v e = absurd (some-ne-none v (sym e))
    term_le (x ∷ xs) zero v e = omega (arith, ap g (some-injective x v e))
    term_le (x ∷ xs) (suc j) v e = omega (arith, term_le xs j v e)

    pub terms_le : (l : List A) (j k : ℕ) (v u : A) → k ≢ j → get_elem? l j ≡ some v → get_elem? l k ≡ some u → g v + g u ≤ total g l
    terms_le [] j k v u n e d = absurd (some-ne-none v (sym e))
    terms_le (x ∷ xs) zero zero v u n e d = absurd (n refl)
    terms_le (x ∷ xs) zero (suc k) v u n e d = omega (arith, ap g (some-injective x v e), term_le xs k u d)
    terms_le (x ∷ xs) (suc j) zero v u n e d = omega (arith, ap g (some-injective x u d), term_le xs j v e)
    terms_le (x ∷ xs) (suc j) (suc k) v u n e d = omega (arith, terms_le xs j k v u (λ h. n (ap suc h)) e d)

    -- where the sum is not 0, some term is not
    pub some_term : (l : List A) → 0 < total g l → (j : ℕ) × (v : A) × (get_elem? l j ≡ some v) × (0 < g v)
    some_term [] h = absurd (omega arith)
    some_term (x ∷ xs) h = dite (dec_le 1 (g x)) (λ here. (0, x, refl, here)) (λ none. let t = some_term xs (omega arith) in (suc t.0, t.1, t.2, t.3))

  pub total_le : (g h : A → ℕ) (l : List A) → ((j : ℕ) (v : A) → get_elem? l j ≡ some v → g v ≤ h v) → total g l ≤ total h l
  total_le g h [] le = omega arith
  total_le g h (x ∷ xs) le = omega (arith, le 0 x refl, total_le g h xs (λ j v e. le (suc j) v e))

  pub total_same : (g h : A → ℕ) (l : List A) → ((j : ℕ) (v : A) → get_elem? l j ≡ some v → g v ≡ h v) → total g l ≡ total h l
  total_same g h [] same = refl
  total_same g h (x ∷ xs) same = omega (arith, same 0 x refl, total_same g h xs (λ j v e. same (suc j) v e))

  -- the terms of g are at most one more than those of h
  pub total_le_more : (g h : A → ℕ) (l : List A) → ((j : ℕ) (v : A) → get_elem? l j ≡ some v → g v ≤ h v + 1) → total g l ≤ total h l + length l
  total_le_more g h [] le = omega arith
  total_le_more g h (x ∷ xs) le = omega (arith, le 0 x refl, total_le_more g h xs (λ j v e. le (suc j) v e))

-- 1 at x, and 0 elsewhere
abbrev pub one_at : ℕ → ℕ → ℕ
one_at x n = cond (eqb x n) 1 0

-- 1 below the bound, and 0 from there on
abbrev pub one_below : ℕ → ℕ → ℕ
one_below bound n = cond (ltb n bound) 1 0

pub at_same : (x n : ℕ) → x ≡ n → one_at x n ≡ 1
at_same x n e = ap (λ b. cond b 1 0) (eq-eqb x n e)

pub at_other : (x n : ℕ) → x ≢ n → one_at x n ≡ 0
at_other x n e = ap (λ b. cond b 1 0) (ne_eqb x n e)

pub below_yes : (bound n : ℕ) → n < bound → one_below bound n ≡ 1
below_yes bound n h = ap (λ b. cond b 1 0) (lt-ltb n bound h)

pub below_no : (bound n : ℕ) → bound ≤ n → one_below bound n ≡ 0
below_no bound n h = ap (λ b. cond b 1 0) (le-ltb n bound h)

pub below_one : (bound n : ℕ) → one_below bound n ≤ 1
below_one bound n = dite (dec_le bound n) (λ h. omega (arith, below_no bound n h)) (λ h. omega (arith, below_yes bound n (omega arith)))

-- one number more
pub below_next : (bound n : ℕ) → one_below (bound + 1) n ≡ one_below bound n + one_at bound n
below_next bound n = dite (ℕ_discrete bound n)
    (λ e. omega (arith, at_same bound n e, below_yes (bound + 1) n (omega arith), below_no bound n (omega arith)))
    (λ ne. dite (dec_le bound n) (λ h. omega (arith, at_other bound n ne, below_no bound n h, below_no (bound + 1) n (omega arith)))
    (λ h. omega (arith, at_other bound n ne, below_yes bound n (omega arith), below_yes (bound + 1) n (omega arith))))

pub times-snoc : (n : ℕ) (l : List ℕ) (x : ℕ) → times n (l ++ x ∷ []) ≡ times n l + one_at x n
times-snoc n [] x = omega arith
times-snoc n (y ∷ ys) x = omega (arith, times-snoc n ys x)

pub length-snoc : {A : Type 0} (l : List A) (x : A) → length (l ++ x ∷ []) ≡ length l + 1
length-snoc [] x = refl
length-snoc (y ∷ ys) x = omega (arith, length-snoc ys x)

-- f of each number below the bound, added up
abbrev pub sum_below : (ℕ → ℕ) → ℕ → ℕ
sum_below f zero = 0
sum_below f (suc n) = sum_below f n + f n

pub sum_below-add : (f g : ℕ → ℕ) (n : ℕ) → sum_below (λ x. f x + g x) n ≡ sum_below f n + sum_below g n
sum_below-add f g zero = refl
sum_below-add f g (suc n) = omega (arith, sum_below-add f g n)

pub sum_below-zero : (n : ℕ) → sum_below (λ _. 0) n ≡ 0
sum_below-zero zero = refl
sum_below-zero (suc n) = omega (arith, sum_below-zero n)

pub sum_below-le : (f g : ℕ → ℕ) (n : ℕ) → ((x : ℕ) → x < n → f x ≤ g x) → sum_below f n ≤ sum_below g n
sum_below-le f g zero le = omega arith
sum_below-le f g (suc n) le = omega (arith, sum_below-le f g n (λ x h. le x (omega arith)), le n (omega arith))

pub sum_below-below : (bound n : ℕ) → n ≤ bound → sum_below (one_below bound) n ≡ n
sum_below-below bound zero h = refl
sum_below-below bound (suc n) h = omega (arith, sum_below-below bound n (omega arith), below_yes bound n (omega arith))

-- where g is below f at one number at most, by one
pub sum_below-one_more : (f g : ℕ → ℕ) (n : ℕ) → ((x : ℕ) → f x ≤ g x + 1) → ((x y : ℕ) → g x < f x → g y < f y → x ≡ y) → sum_below f n ≤ sum_below g n + 1
sum_below-one_more f g zero near one = omega arith
sum_below-one_more f g (suc n) near one = dite (dec_le (f n) (g n))
    (λ le. omega (arith, sum_below-one_more f g n near one))
    (λ more. let rest : sum_below f n ≤ sum_below g n = sum_below-le f g n (λ x h. dite (dec_le (f x) (g x)) (λ le. le) (λ here. absurd (let e : x ≡ n = one x n (omega arith) (omega arith) in omega arith))) in
    omega (arith, near n))

pub sum_below-ones : (n : ℕ) → sum_below (λ _. 1) n ≡ n
sum_below-ones zero = refl
sum_below-ones (suc n) = omega (arith, sum_below-ones n)

sum_below-early : (x n : ℕ) → n ≤ x → sum_below (one_at x) n ≡ 0
sum_below-early x zero h = refl
sum_below-early x (suc n) h = omega (arith, sum_below-early x n (omega arith), at_other x n (λ e. omega arith))

sum_below-at : (x n : ℕ) → x < n → sum_below (one_at x) n ≡ 1
sum_below-at x zero h = absurd (omega arith)
sum_below-at x (suc n) h = dite (ℕ_discrete x n)
    (λ e. omega (arith, sum_below-early x n (omega arith), at_same x n e))
    (λ ne. omega (arith, sum_below-at x n (omega arith), at_other x n ne))

-- how often each number stands in a list of numbers below the bound, added up
pub sum_times : (l : List ℕ) (bound : ℕ) → ((x : ℕ) → 0 < times x l → x < bound) → sum_below (λ x. times x l) bound ≡ length l
sum_times [] bound low = sum_below-zero bound
sum_times (y ∷ ys) bound low = let here : y < bound = low y (omega (arith, at_same y y refl)) in
    omega (arith, sum_below-add (one_at y) (λ x. times x ys) bound, sum_below-at y bound here, sum_times ys bound (λ x h. low x (omega arith)))

-- the two sums in the other order
pub sum_total : {A : Type 0} (g : ℕ → A → ℕ) (l : List A) (bound : ℕ) → sum_below (λ x. total (g x) l) bound ≡ total (λ a. sum_below (λ x. g x a) bound) l
sum_total g [] bound = sum_below-zero bound
sum_total g (a ∷ more) bound = omega (arith, sum_below-add (λ x. g x a) (λ x. total (g x) more) bound, sum_total g more bound)

-- where no term is above 1 and the sum is the bound, each term is 1
pub all_ones : (f : ℕ → ℕ) (bound : ℕ) → ((x : ℕ) → f x ≤ 1) → sum_below f bound ≡ bound → (x : ℕ) → x < bound → f x ≡ 1
all_ones f zero small full x h = absurd (omega arith)
all_ones f (suc n) small full x h = let rest : sum_below f n ≤ n = omega (arith, sum_below-le f (λ _. 1) n (λ y _. small y), sum_below-ones n) in
    let last = small n in
    dite (ℕ_discrete x n) (λ e. omega (arith, ap f e)) (λ ne. all_ones f n small (omega arith) x (omega arith))

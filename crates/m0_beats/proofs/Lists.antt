-- The registers of a list, one after the other.
use Rattle.std.proofs.Common.{◌≡◌, ℕ, zero, suc, ◌+◌, ◌-◌, ◌/◌, ◌%◌, ◌^◌, ◌<◌, ◌≤◌, Bool, true, false, cond, nat_eq, List, [], ◌∷◌, length, refl, sym, ap, subst, ◌∙◌, arith}
use Rattle.std.specs.List.{filter}
use Rattle.std.specs.Int.Count.{ones, ones_step, ones-ones}
use Rattle.std.proofs.Math.Nat.{div-eq_of_lt}
use Rattle.std.proofs.lemmas.Nat.{shr-shr}
use Rattle.std.proofs.lemmas.Nat.Bits.{bit_at_above}
use Rattle.std.proofs.lemmas.List.{append-nil}
use Rattle.std.proofs.lemmas.Bool.Decides.{nat_tests}
use Rattle.rp_base.specs.Word.{has_bit}
use Rattle.std.specs.Prelude.{◌++◌, Option, Some, None}
use Rattle.m0_beats.specs.Registers.{register_of}
use Rattle.m0_beats.specs.Beats.{registers_of}
use Rattle.m0_beats.specs.declared.timing.Beat.{Beat}
use Rattle.m0_beats.specs.declared.registers.Regs.{Regs}

-- so many numbers from k on
unfoldable pub numbers_from : ℕ → ℕ → List ℕ
numbers_from zero k = []
numbers_from (suc n) k = k ∷ numbers_from n (k + 1)

-- the registers of a list from k on
unfoldable pub rest_of : ℕ → ℕ → List ℕ
rest_of list k = filter (has_bit list) (numbers_from (16 - k) k)

pub rest_start : (list : ℕ) → rest_of list 0 ≡ registers_of list
unfolding rest_of numbers_from registers_of
rest_start list = refl

pub rest_end : (list : ℕ) → rest_of list 16 ≡ []
unfolding rest_of numbers_from
rest_end list = refl

numbers_step : (k : ℕ) → k < 16 → numbers_from (16 - k) k ≡ k ∷ numbers_from (16 - (k + 1)) (k + 1)
unfolding numbers_from
numbers_step k h =
    let e : 16 - k ≡ suc (16 - (k + 1)) = omega arith in
    ap (λ n. numbers_from n k) e

-- the rest of a list at k, by whether k is in it
pub rest_listed : (list k : ℕ) → k < 16 → has_bit list k ≡ true → rest_of list k ≡ k ∷ rest_of list (k + 1)
unfolding rest_of
rest_listed list k h is =
    ap (filter (has_bit list)) (numbers_step k h)
    ∙ ap (λ b. cond b (k ∷ filter (has_bit list) (numbers_from (16 - (k + 1)) (k + 1))) (filter (has_bit list) (numbers_from (16 - (k + 1)) (k + 1)))) is

pub rest_other : (list k : ℕ) → k < 16 → has_bit list k ≡ false → rest_of list k ≡ rest_of list (k + 1)
unfolding rest_of
rest_other list k h is =
    ap (filter (has_bit list)) (numbers_step k h)
    ∙ ap (λ b. cond b (k ∷ filter (has_bit list) (numbers_from (16 - (k + 1)) (k + 1))) (filter (has_bit list) (numbers_from (16 - (k + 1)) (k + 1)))) is

-- no register from 16 on is in a list
pub none_above : (list k : ℕ) → list < 2 ^ 16 → 16 ≤ k → has_bit list k ≡ false
none_above list k fits above = ap (λ n. nat_eq n 1) (bit_at_above list 16 k fits above)

-- ---- how many registers a list has

length_step : (p : ℕ → Bool) (x : ℕ) (xs : List ℕ) → length (filter p (x ∷ xs)) ≡ cond (p x) 1 0 + length (filter p xs)
length_step p x xs =
    elim (p x) as (λ b. length (cond b (x ∷ filter p xs) (filter p xs)) ≡ cond b 1 0 + length (filter p xs)) [ true ↦ omega arith | false ↦ omega arith ]

bit_test : (m : ℕ) → m < 2 → cond (nat_eq m 1) 1 0 ≡ m
bit_test m h = grind (arith, nat_tests)

listed_count : (n k list : ℕ) → list < 2 ^ (k + n) → length (filter (has_bit list) (numbers_from n k)) ≡ ones (list / 2 ^ k)
unfolding numbers_from
listed_count zero k list h =
    let fits : list < 2 ^ k = subst (λ n. list < 2 ^ n) (omega arith) h in
    let none : list / 2 ^ k ≡ 0 = div-eq_of_lt fits in
    sym (ap ones none ∙ ones-ones 0)
listed_count (suc n) k list h =
    let fits : list < 2 ^ (k + 1 + n) = subst (λ n. list < 2 ^ n) (omega arith) h in
    let rest = listed_count n (k + 1) list fits in
    let step : ones (list / 2 ^ k) ≡ list / 2 ^ k % 2 + ones (list / 2 ^ (k + 1)) =
    ones_step (list / 2 ^ k) ∙ ap (λ x. list / 2 ^ k % 2 + ones x) (shr-shr list k 1) in
    let here : cond (has_bit list k) 1 0 ≡ list / 2 ^ k % 2 = bit_test (list / 2 ^ k % 2) (omega arith) in
    length_step (has_bit list) k (numbers_from n (k + 1)) ∙ omega (arith, here, rest, step)

pub registers_count : (list : ℕ) → list < 2 ^ 16 → length (registers_of list) ≡ ones list
unfolding numbers_from registers_of
registers_count list h = listed_count 16 0 list h ∙ ap ones (omega arith)

-- ---- the accesses of the registers of a list

pub append_nothing : (items : List Beat) → items ++ [] ≡ items
append_nothing items = append-nil items

-- what an access at a register's index writes: nothing where it reads
abbrev pub no_write : ℕ → Option ℕ
no_write k = None

abbrev pub register_write : Regs → ℕ → Option ℕ
register_write s k = Some (register_of s k)

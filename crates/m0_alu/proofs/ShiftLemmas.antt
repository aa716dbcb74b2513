-- Facts on shifts by powers of two.
use Rattle.std.proofs.Common.{◌≡◌, ℕ, suc, ◌+◌, ◌-◌, ◌*◌, ◌/◌, ◌%◌, ◌^◌, ◌<◌, false, nat_eq, nat_le, refl, sym, ap, subst, ◌∙◌, arith, add_comm, add-zero}
use Rattle.std.proofs.Math.Nat.{mul_assoc, mul-mod_left, div-eq_of_lt, lt_trans}
use Rattle.std.specs.Int.Bits.{shifted_even}
use Rattle.std.proofs.lemmas.Bool.Decides.{nat_tests}
use Rattle.std.specs.Prelude.{bit_and, bit_or}
use Rattle.std.proofs.lemmas.Nat.{pow-add, shl-shr, shr-shr, pow_pos, or_shifted, shr_below, mod_below, mul-add-lt, pow_below, mod-pow-add}
use Rattle.std.proofs.lemmas.Nat.Bits.{shr_and_one, bit_at_above}
use Rattle.m0_alu.specs.Shift.{shifted_left, shifted_right, rotated}

-- what a shift to the left puts above bit 31 is what a shift to the right keeps
pub left_above : (x a b : ℕ) → a + b ≡ 32 → x * 2 ^ a / 2 ^ 32 ≡ x / 2 ^ b
left_above x a b e =
    ap (λ n. x * 2 ^ a / 2 ^ n) (sym e) ∙ sym (shr-shr (x * 2 ^ a) a b) ∙ ap (λ n. n / 2 ^ b) (shl-shr x a)

pub left_near : (x a : ℕ) → a < 32 → (x * 2 ^ a % 2 ^ 32, nat_eq (bit_and (x / 2 ^ (32 - a)) 1) 1) ≡ shifted_left x a
left_near x a h =
    let sum : a + (32 - a) ≡ 32 = omega arith in
    rw (left_above x a (32 - a) sum, shr_and_one x (32 - a)) refl

-- a shift by 32 and j places is one by j places and then one by 32
pub far_product : (x j : ℕ) → x * 2 ^ (j + 32) ≡ x * 2 ^ j * 2 ^ 32
far_product x j = ap (λ n. x * n) (pow-add 2 j 32) ∙ sym (mul_assoc x (2 ^ j) (2 ^ 32))

pub far_value : (x j : ℕ) → x * 2 ^ (j + 32) % 2 ^ 32 ≡ 0
far_value x j = rw (far_product x j) (omega arith)

pub far_above : (x j : ℕ) → x * 2 ^ (j + 32) / 2 ^ 32 ≡ x * 2 ^ j
far_above x j = rw (far_product x j) (shl-shr (x * 2 ^ j) 32)

left_far_at : (x j : ℕ) → (0, nat_eq (suc j + 32) 32) ≡ shifted_left x (suc j + 32)
left_far_at x j =
    let test : nat_eq (suc j + 32) 32 ≡ false = grind (arith, nat_tests) in
    rw (far_value x (suc j), far_above x (suc j), shifted_even x j, test) refl

pub left_far : (x a : ℕ) → 32 < a → (0, nat_eq a 32) ≡ shifted_left x a
left_far x a h =
    let is : suc (a - 33) + 32 ≡ a = omega arith in
    subst (λ n. (0, nat_eq n 32) ≡ shifted_left x n) is (left_far_at x (a - 33))

pub right_far : (x a : ℕ) → x < 2 ^ 32 → 32 < a → (0, nat_eq a 32) ≡ shifted_right x a
right_far x a fits h =
    let below : x < 2 ^ a = lt_trans fits (pow_below 32 a h) in
    let value : x / 2 ^ a ≡ 0 = div-eq_of_lt below in
    let bit : x / 2 ^ (a - 1) % 2 ≡ 0 = bit_at_above x 32 (a - 1) fits (omega arith) in
    let test : nat_eq a 32 ≡ false = grind (arith, nat_tests) in
    rw (value, bit, test) refl

-- the low bits that a shift to the left by the rest of 32 places keeps
pub kept_low : (x p k : ℕ) → p + k ≡ 32 → x * 2 ^ k % 2 ^ 32 ≡ (x % 2 ^ p) * 2 ^ k
kept_low x p k e =
    ap (λ n. x * 2 ^ k % 2 ^ n) (sym e) ∙ mod-pow-add (x * 2 ^ k) p k
    ∙ rw (shl-shr x k, mul-mod_left x (2 ^ k)) (add-zero _)

-- the rotated word as one sum that fits
pub rotated_parts : (x p k : ℕ) → x < 2 ^ 32 → p + k ≡ 32 → (x % 2 ^ p) * 2 ^ k + x / 2 ^ p < 2 ^ 32
rotated_parts x p k fits e =
    let high : x / 2 ^ p < 2 ^ k = shr_below x k p (subst (λ n. x < 2 ^ n) (sym (add_comm k p ∙ e)) fits) in
    let low : x % 2 ^ p < 2 ^ p = mod_below x (2 ^ p) (pow_pos p) in
    subst (λ n. (x % 2 ^ p) * 2 ^ k + x / 2 ^ p < n) (sym (pow-add 2 k p) ∙ ap (λ n. 2 ^ n) (add_comm k p ∙ e))
    (mul-add-lt (x % 2 ^ p) (2 ^ k) (x / 2 ^ p) (2 ^ p) low high)

pub rotated_some : (x p : ℕ) → x < 2 ^ 32 → p < 32 → bit_or (x * 2 ^ (32 - p) % 2 ^ 32) (x / 2 ^ p) ≡ rotated x p
rotated_some x p fits h =
    let k : ℕ = 32 - p in
    let e : p + k ≡ 32 = omega arith in
    let high : x / 2 ^ p < 2 ^ k = shr_below x k p (subst (λ n. x < 2 ^ n) (sym (add_comm k p ∙ e)) fits) in
    let low : x * 2 ^ k % 2 ^ 32 ≡ (x % 2 ^ p) * 2 ^ k = kept_low x p k e in
    let room : (x % 2 ^ p) * 2 ^ k + x / 2 ^ p < 2 ^ 32 = rotated_parts x p k fits e in
    ap (λ n. bit_or n (x / 2 ^ p)) low ∙ or_shifted (x % 2 ^ p) k (x / 2 ^ p) high
    ∙ omega (arith, low, room)

pub rotated_none : (x : ℕ) → x < 2 ^ 32 → x ≡ rotated x 0
rotated_none x fits = omega arith

-- bit 31 of a word says whether it is at least 2 ^ 31
pub top_bit : (x : ℕ) → x < 2 ^ 32 → nat_le (2 ^ 31) x ≡ nat_eq (x / 2 ^ 31 % 2) 1
top_bit x fits = grind (arith, nat_tests)

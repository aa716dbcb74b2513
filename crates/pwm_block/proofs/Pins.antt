-- Each pin has its output.
use Rattle.std.proofs.Common.{◌∙◌, ap, ◌≡◌, ℕ, zero, suc, ◌+◌, ◌-◌, ◌*◌, ◌^◌, ◌<◌, ◌≤◌, Bool, true, false, refl, arith, List, [], ◌∷◌, length}
use Rattle.std.specs.Prelude.{◌==◌, nat_lt, slice_index_or}
use Rattle.std.specs.Int.{bit_at}
use Rattle.std.proofs.lemmas.Grind.{common_steps}
use Rattle.std.proofs.lemmas.Bool.Decides.{nat_tests}
use Rattle.std.proofs.lemmas.Nat.Bits.{bit_at_cat_low, bit_at_cat_high}
use Rattle.rp_base.specs.Word.{has_bit, bit_number}
use Rattle.pwm_block.specs.State.{Slice, State, slice_at_reset}
use Rattle.pwm_block.specs.Outputs.{output_a, output_b, outputs_of}
use Rattle.pwm_block.specs.Laws.{HasItsOutput, EachPinHasItsOutput}
use Rattle.pwm_block.proofs.Slices.{outputs_of-lt}

-- ---- the outputs of a list of slices, bit by bit

low-a : (a b : Bool) → has_bit (bit_number a + bit_number b * 2) 0 ≡ a
low-a true true = refl
low-a true false = refl
low-a false true = refl
low-a false false = refl

low-b : (a b : Bool) → has_bit (bit_number a + bit_number b * 2) 1 ≡ b
low-b true true = refl
low-b true false = refl
low-b false true = refl
low-b false false = refl

two-lt : (a b : Bool) → bit_number a + bit_number b * 2 < 2 ^ 2
two-lt true true = omega arith
two-lt true false = omega arith
two-lt false true = omega arith
two-lt false false = omega arith

turned-round : (x r : ℕ) → x + r * 4 ≡ r * 2 ^ 2 + x
turned-round x r = omega arith

first : (a b : Bool) (r i : ℕ) → i < 2 → has_bit ((bit_number a + bit_number b * 2) + r * 4) i ≡ has_bit (bit_number a + bit_number b * 2) i
first a b r i h =
    ap (λ x. x == 1)
    (ap (λ x. bit_at x i) (turned-round (bit_number a + bit_number b * 2) r) ∙ bit_at_cat_low r 2 (bit_number a + bit_number b * 2) i h)

later : (a b : Bool) (r i j : ℕ) → i ≡ j + 2 → has_bit ((bit_number a + bit_number b * 2) + r * 4) i ≡ has_bit r j
later a b r i j e =
    ap (λ x. x == 1)
    (ap (λ x. bit_at x i) (turned-round (bit_number a + bit_number b * 2) r)
    ∙ bit_at_cat_high r 2 (bit_number a + bit_number b * 2) i (two-lt a b) (omega arith)
    ∙ ap (λ k. bit_at r k) (omega arith))

out-a : (ss : List Slice) (n : ℕ) → n < length ss → has_bit (outputs_of ss) (2 * n) ≡ output_a (slice_index_or ss n slice_at_reset)
out-a [] n h = absurd (omega arith)
out-a (s ∷ ss) zero h = first (output_a s) (output_b s) (outputs_of ss) 0 (omega arith) ∙ low-a (output_a s) (output_b s)
out-a (s ∷ ss) (suc n) h = later (output_a s) (output_b s) (outputs_of ss) (2 * suc n) (2 * n) (omega arith) ∙ out-a ss n (omega arith)

out-b : (ss : List Slice) (n : ℕ) → n < length ss → has_bit (outputs_of ss) (2 * n + 1) ≡ output_b (slice_index_or ss n slice_at_reset)
out-b [] n h = absurd (omega arith)
out-b (s ∷ ss) zero h = first (output_a s) (output_b s) (outputs_of ss) 1 (omega arith) ∙ low-b (output_a s) (output_b s)
out-b (s ∷ ss) (suc n) h = later (output_a s) (output_b s) (outputs_of ss) (2 * suc n + 1) (2 * n + 1) (omega arith) ∙ out-b ss n (omega arith)

-- ---- the pins

twice : (x : ℕ) → x * (2 ^ 16 + 1) ≡ x * 2 ^ 16 + x
twice x = omega arith

pin-low : (x i : ℕ) → i < 16 → has_bit (x * (2 ^ 16 + 1)) i ≡ has_bit x i
pin-low x i h = ap (λ y. y == 1) (ap (λ y. bit_at y i) (twice x) ∙ bit_at_cat_low x 16 x i h)

pin-high : (x i j : ℕ) → x < 2 ^ 16 → i ≡ j + 16 → has_bit (x * (2 ^ 16 + 1)) i ≡ has_bit x j
pin-high x i j h e =
    ap (λ y. y == 1)
    (ap (λ y. bit_at y i) (twice x) ∙ bit_at_cat_high x 16 x i h (omega arith) ∙ ap (λ k. bit_at x k) (omega arith))

lower : (b : State) (n : ℕ) → length b.slices ≡ 8 → n < 8 → HasItsOutput b n
lower b n e h = record {
  even = pin-low (outputs_of b.slices) (2 * n) (omega arith) ∙ out-a b.slices n (omega (arith, e)) ∙ ap (λ (k : ℕ). output_a (slice_index_or b.slices k slice_at_reset)) (omega arith);
  odd = pin-low (outputs_of b.slices) (2 * n + 1) (omega arith) ∙ out-b b.slices n (omega (arith, e)) ∙ ap (λ (k : ℕ). output_b (slice_index_or b.slices k slice_at_reset)) (omega arith);
}

upper : (b : State) (n m : ℕ) → length b.slices ≡ 8 → n ≡ m + 8 → m < 8 → HasItsOutput b n
upper b n m e i h =
    let lt = outputs_of-lt b.slices (omega (arith, e)) in
    record {
      even = pin-high (outputs_of b.slices) (2 * n) (2 * m) lt (omega arith) ∙ out-a b.slices m (omega (arith, e)) ∙ ap (λ (k : ℕ). output_a (slice_index_or b.slices k slice_at_reset)) (omega arith);
      odd = pin-high (outputs_of b.slices) (2 * n + 1) (2 * m + 1) lt (omega arith) ∙ out-b b.slices m (omega (arith, e)) ∙ ap (λ (k : ℕ). output_b (slice_index_or b.slices k slice_at_reset)) (omega arith);
    }

either : (b : State) (n : ℕ) (q : Bool) → nat_lt n 8 ≡ q → length b.slices ≡ 8 → n < 16 → HasItsOutput b n
either b n true q e h = lower b n e (less n q)
  where
    less : (n : ℕ) → nat_lt n 8 ≡ true → n < 8
    less n h = grind (arith, nat_tests, common_steps)
either b n false q e h = upper b n (n - 8) e (omega (arith, more n q)) (omega arith)
  where
    more : (n : ℕ) → nat_lt n 8 ≡ false → 8 ≤ n
    more n h = grind (arith, nat_tests, common_steps)

pub each_pin_has_its_output : EachPinHasItsOutput
each_pin_has_its_output = λ b n e h. either b n (nat_lt n 8) refl e h

-- A period of counts: how long output A is high, and that it falls as it rose with PH_CORRECT.
use Rattle.std.proofs.Common.{◌∙◌, ap, sym, ◌≡◌, ℕ, zero, suc, ◌+◌, ◌-◌, ◌*◌, ◌%◌, ◌^◌, ◌<◌, ◌≤◌, Bool, true, false, min, refl, arith}
use Rattle.std.specs.Prelude.{◌==◌, nat_lt}
use Rattle.std.proofs.lemmas.Grind.{common_steps}
use Rattle.std.proofs.lemmas.Bool.Decides.{nat_tests}
use Rattle.rp_base.specs.Word.{has_bit, bit_number}
use Rattle.pwm_block.specs.State.{Slice, is_phase_correct}
use Rattle.pwm_block.specs.Step.{counted}
use Rattle.pwm_block.specs.Outputs.{output_a}
use Rattle.pwm_block.specs.Laws.{after_counts, highs_of, IsAtStart, OutputAIsHighForCc, PhaseCorrectPeriodsAreSymmetric}

neq : (a b : ℕ) → a < b → (a == b) ≡ false
neq a b h = grind (arith, nat_tests, common_steps)

neq-zero : (a : ℕ) → 0 < a → (a == 0) ≡ false
neq-zero a h = grind (arith, nat_tests, common_steps)

eqs : (a b : ℕ) → a ≡ b → (a == b) ≡ true
eqs a b h = grind (arith, nat_tests, common_steps)

-- ---- one way

up-on : (s : Slice) → is_phase_correct s ≡ false → (s.ctr == s.live_top) ≡ false → counted s ≡ record s { ctr = (s.ctr + 1) % 2 ^ 16 }
up-on s h i = rw (h, i) refl

fits : (a b : ℕ) → a < b → b < 2 ^ 16 → (a + 1) % 2 ^ 16 ≡ a + 1
fits a b h i = omega arith

-- the slice with its counter at a number
abbrev at : Slice → ℕ → Slice
at s n = record s { ctr = n }

one-way : (s : Slice) (n : ℕ) → IsAtStart s → is_phase_correct s ≡ false → n ≤ s.live_top → after_counts n s ≡ at s n
one-way s zero h u i = ap (at s) h.ctr
one-way s (suc n) h u i =
    ap counted (one-way s n h u (omega arith))
    ∙ up-on (at s n) u (neq n s.live_top (omega arith))
    ∙ ap (at s) (fits n s.live_top (omega arith) h.sixteen ∙ omega arith)

-- output A where it is not inverted
plain-a : (s : Slice) → has_bit s.csr 2 ≡ false → output_a s ≡ nat_lt s.ctr (s.live_cc % 2 ^ 16)
plain-a s h = rw h refl

one-more : (c n : ℕ) → min c n + bit_number (nat_lt n c) ≡ min c (suc n)
one-more c n = grind (arith, nat_tests, common_steps)

highs : (s : Slice) (n : ℕ) → IsAtStart s → is_phase_correct s ≡ false → has_bit s.csr 2 ≡ false → n ≤ s.live_top + 1
    → highs_of n s ≡ min (s.live_cc % 2 ^ 16) n
highs s zero h u a i = omega arith
highs s (suc n) h u a i =
    ap (λ x. x + bit_number (output_a (after_counts n s))) (highs s n h u a (omega arith))
    ∙ ap (λ b. min (s.live_cc % 2 ^ 16) n + bit_number b) (ap output_a (one-way s n h u (omega arith)) ∙ plain-a (at s n) a)
    ∙ one-more (s.live_cc % 2 ^ 16) n

pub output_a_is_high_for_cc : OutputAIsHighForCc
output_a_is_high_for_cc = λ s h u a. highs s (s.live_top + 1) h u a (omega arith)

-- ---- both ways

abbrev going : Slice → ℕ → Bool → Slice
going s n b = record s { ctr = n; down = b }

rise : (s : Slice) → is_phase_correct s ≡ true → s.down ≡ false → (s.ctr == s.live_top) ≡ false
    → counted s ≡ record s { ctr = (s.ctr + 1) % 2 ^ 16 }
rise s h d i = rw (h, d, i) refl

top : (s : Slice) → is_phase_correct s ≡ true → s.down ≡ false → (s.ctr == s.live_top) ≡ true → counted s ≡ record s { down = true }
top s h d i = rw (h, d, i) refl

fall : (s : Slice) → is_phase_correct s ≡ true → s.down ≡ true → (s.ctr == 0) ≡ false → counted s ≡ record s { ctr = s.ctr - 1 }
fall s h d i = rw (h, d, i) refl

bottom : (s : Slice) → is_phase_correct s ≡ true → s.down ≡ true → (s.ctr == 0) ≡ true
    → counted s ≡ record s { ctr = s.ctr - 1; down = false; live_cc = s.cc; live_top = s.top }
bottom s h d i = rw (h, d, i) refl

rises : (s : Slice) (n : ℕ) → IsAtStart s → is_phase_correct s ≡ true → n ≤ s.live_top → after_counts n s ≡ going s n false
rises s zero h u i = ap (λ (p : ℕ). going s p s.down) h.ctr ∙ ap (going s 0) h.way
rises s (suc n) h u i =
    ap counted (rises s n h u (omega arith))
    ∙ rise (going s n false) u refl (neq n s.live_top (omega arith))
    ∙ ap (λ (p : ℕ). going s p false) (fits n s.live_top (omega arith) h.sixteen ∙ omega arith)

turns : (s : Slice) → IsAtStart s → is_phase_correct s ≡ true → after_counts (suc s.live_top) s ≡ going s s.live_top true
turns s h u = ap counted (rises s s.live_top h u (omega arith)) ∙ top (going s s.live_top false) u refl (eqs s.live_top s.live_top refl)

falls : (s : Slice) (k n : ℕ) → IsAtStart s → is_phase_correct s ≡ true → k + n ≡ s.live_top
    → after_counts (suc (s.live_top + k)) s ≡ going s n true
falls s zero n h u i =
    ap (λ (m : ℕ). after_counts (suc m) s) (plus-none s.live_top)
    ∙ turns s h u
    ∙ ap (λ (m : ℕ). going s m true) (omega arith)
  where
    plus-none : (m : ℕ) → m + 0 ≡ m
    plus-none m = omega arith
falls s (suc k) n h u i =
    ap (λ (m : ℕ). after_counts (suc m) s) (plus-more s.live_top k)
    ∙ ap counted (falls s k (n + 1) h u (omega arith))
    ∙ fall (going s (n + 1) true) u refl (neq-zero (n + 1) (omega arith))
    ∙ ap (λ (m : ℕ). going s m true) (omega arith)
  where
    plus-more : (m k : ℕ) → m + suc k ≡ suc (m + k)
    plus-more m k = omega arith

ends : (s : Slice) → IsAtStart s → is_phase_correct s ≡ true → after_counts (suc (suc (s.live_top + s.live_top))) s ≡ s
ends s h u =
    ap counted (falls s s.live_top 0 h u (omega arith))
    ∙ bottom (going s 0 true) u refl refl
    ∙ ap (λ (p : ℕ). record s { ctr = p; down = false; live_cc = s.cc; live_top = s.top }) (sym h.ctr)
    ∙ ap (λ (b : Bool). record s { down = b; live_cc = s.cc; live_top = s.top }) (sym h.way)
    ∙ ap (λ (c : ℕ). record s { live_cc = c; live_top = s.top }) (sym h.cc)
    ∙ ap (λ (c : ℕ). record s { live_top = c }) (sym h.top)

pub phase_correct_periods_are_symmetric : PhaseCorrectPeriodsAreSymmetric
phase_correct_periods_are_symmetric = λ s h u. record {
  period = ap (λ n. after_counts n s) (twice s.live_top) ∙ ends s h u;
  rises = λ k i. ap (λ (t : Slice). t.ctr) (rises s k h u i);
  mirrored = λ k i.
      ap (λ n. (after_counts n s).ctr) (back s.live_top k i)
      ∙ ap (λ (t : Slice). t.ctr) (falls s (s.live_top - k) k h u (omega arith));
}
  where
    twice : (t : ℕ) → 2 * (t + 1) ≡ suc (suc (t + t))
    twice t = omega arith

    back : (t k : ℕ) → k ≤ t → 2 * (t + 1) - 1 - k ≡ suc (t + (t - k))
    back t k h = omega arith

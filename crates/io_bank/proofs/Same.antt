-- Outputs of PWM by which the pads have the same levels.
use Rattle.std.proofs.Common.{◌≡◌, ◌∙◌, ◌<◌, ◌==◌, ℕ, List, [], ◌∷◌, Bool, true, false, not, ◌&&◌, eqb, cond, refl, sym, ap}
use Rattle.std.specs.Prelude.{Decides, bit_and, slice_index}
use Rattle.std.specs.Int.{bit_at}
use Rattle.std.proofs.lemmas.Bool.Decides.{Decides-eqb, Decides-like}
use Rattle.std.proofs.lemmas.Nat.Bits.{bit_at-lt, same_from_bits}
use Rattle.rp_base.specs.Word.{has_bit}
use Rattle.io_bank.specs.declared.outputs.Outs.{Outs}
use Rattle.io_bank.specs.Pins.{overridden}
use Rattle.io_bank.specs.State.{State}
use Rattle.io_bank.specs.Levels.{levels_of, by_sets, control_of, pad_of, pad_level, level_to, level_outside, function_of, out_override, enable_override, is_output_disabled, peripheral, enable_to, pins_of, IsSameAt}
use Rattle.io_bank.proofs.Bits.{same_bit, has_and, bits_below-at, bits_below-same}
use Rattle.std.proofs.Math.Bool.{and-true, and-false}

-- ---- words at the pins of a set

and-same : (x y m : Bool) → (m ≡ true → x ≡ y) → (x && m) ≡ (y && m)
and-same x y true h = ap (λ t. t && true) (h refl)
and-same x y false h = and-false x ∙ sym (and-false y)

same-bits : (m a b : ℕ) → IsSameAt m a b → bit_and a m ≡ bit_and b m
same-bits m a b same =
    same_from_bits (bit_and a m) (bit_and b m)
    (λ i. same_bit (bit_at (bit_and a m) i) (bit_at (bit_and b m) i) (bit_at-lt (bit_and a m) i) (bit_at-lt (bit_and b m) i)
    (has_and a m i ∙ and-same (has_bit a i) (has_bit b i) (has_bit m i) (same i) ∙ sym (has_and b m i)))

members-same : (m a b : ℕ) → bit_and a m ≡ bit_and b m → IsSameAt m a b
members-same m a b e i h =
    let left : has_bit (bit_and a m) i ≡ has_bit a i = has_and a m i ∙ ap (λ x. has_bit a i && x) h ∙ and-true (has_bit a i) in
    let right : has_bit (bit_and b m) i ≡ has_bit b i = has_and b m i ∙ ap (λ x. has_bit b i && x) h ∙ and-true (has_bit b i) in
    sym left ∙ ap (λ n. has_bit n i) e ∙ right

-- ---- what a pin gets of the parts

abbrev is_driven : Outs → ℕ → ℕ → ℕ → Bool
is_driven outs control pad pin = enable_to outs control pin && not (is_output_disabled pad)

abbrev signal : Outs → ℕ → ℕ → ℕ → Bool
signal outs control k i = has_bit (slice_index (peripheral outs (function_of control)) k) i

-- ---- a pad

pad-go : (x y p q r : Bool) → x ≡ y → (x ≡ true → p ≡ q) → cond x p r ≡ cond y q r
pad-go true true p q r e h = h refl
pad-go false false p q r e h = refl
pad-go true false p q r e h = absurd (let g : true ≡ false = e in cc)
pad-go false true p q r e h = absurd (let g : false ≡ true = e in cc)

-- ---- the levels of PWM

abbrev pub with_pwm : Outs → ℕ → ℕ → Outs
with_pwm outs levels enables = record outs { pwm = levels ∷ enables ∷ [] }

pick-pwm : (p : List ℕ → Bool) (c2 c4 : Bool) (u w x r : List ℕ) → (c4 ≡ true → p w ≡ p x) →
    p (cond c2 u (cond c4 w r)) ≡ p (cond c2 u (cond c4 x r))
pick-pwm p true c4 u w x r e = refl
pick-pwm p false true u w x r e = e refl
pick-pwm p false false u w x r e = refl

pwm_signal-same : (outs : Outs) (a b enables control k i : ℕ) →
    (eqb (function_of control) 4 ≡ true → has_bit (slice_index (a ∷ enables ∷ []) k) i ≡ has_bit (slice_index (b ∷ enables ∷ []) k) i) →
    signal (with_pwm outs a enables) control k i ≡ signal (with_pwm outs b enables) control k i
pwm_signal-same outs a b enables control k i e =
    pick-pwm (λ xs. has_bit (slice_index xs k) i) (eqb (function_of control) 2) (eqb (function_of control) 4)
    outs.uart (a ∷ enables ∷ []) (b ∷ enables ∷ [])
    (cond (eqb (function_of control) 5) outs.sio
    (cond (eqb (function_of control) 6) outs.pio0 (cond (eqb (function_of control) 7) outs.pio1 (0 ∷ 0 ∷ [])))) e

pwm_pad-same : (s : State) (outs : Outs) (a b enables driven high i : ℕ) → i < 30 → IsSameAt (pins_of 4 s) a b →
    pad_level (with_pwm outs a enables) (by_sets driven high i) (control_of s i) (pad_of s i) i
    ≡ pad_level (with_pwm outs b enables) (by_sets driven high i) (control_of s i) (pad_of s i) i
pwm_pad-same s outs a b enables driven high i lt same =
    let control = control_of s i in
    let pad = pad_of s i in
    let in_set : has_bit (pins_of 4 s) i ≡ eqb (function_of control) 4 =
    bits_below-at (λ pin. eqb (function_of (control_of s pin)) 4) 30 i lt in
    pad-go (is_driven (with_pwm outs a enables) control pad i) (is_driven (with_pwm outs b enables) control pad i)
    (level_to (with_pwm outs a enables) control i) (level_to (with_pwm outs b enables) control i)
    (level_outside (by_sets driven high i) pad)
    (ap (λ t. overridden (enable_override control) t && not (is_output_disabled pad))
    (pwm_signal-same outs a b enables control 1 i (λ _. refl)))
    (λ _. ap (overridden (out_override control)) (pwm_signal-same outs a b enables control 0 i (λ g. same i (in_set ∙ g))))

pub pwm_levels-same : (s : State) (outs : Outs) (a b enables driven high : ℕ) → IsSameAt (pins_of 4 s) a b →
    levels_of (with_pwm outs a enables) (by_sets driven high) s ≡ levels_of (with_pwm outs b enables) (by_sets driven high) s
pwm_levels-same s outs a b enables driven high same =
    bits_below-same
    (λ pin. pad_level (with_pwm outs a enables) (by_sets driven high pin) (control_of s pin) (pad_of s pin) pin)
    (λ pin. pad_level (with_pwm outs b enables) (by_sets driven high pin) (control_of s pin) (pad_of s pin) pin)
    30 (λ i lt. pwm_pad-same s outs a b enables driven high i lt same)

-- two words are the same at the pins of a set where they are, cut to it
pub same_at : (m a b : ℕ) → Decides (bit_and a m == bit_and b m) (IsSameAt m a b)
same_at m a b =
    Decides-like (bit_and a m == bit_and b m) (members-same m a b) (same-bits m a b) (Decides-eqb (bit_and a m) (bit_and b m))

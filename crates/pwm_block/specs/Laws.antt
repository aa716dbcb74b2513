-- Laws of the PWM block: what its cycles and its counts come to.
use Rattle.std.specs.Prelude.{◌≡◌, ℕ, zero, suc, ◌+◌, ◌-◌, ◌*◌, ◌/◌, ◌%◌, ◌^◌, ◌<◌, ◌≤◌, ◌==◌, Bool, true, false, min, if◌then◌else◌, List, length, slice_index_or}
use Rattle.std.specs.List.{AllByRecursion}
use Rattle.rp_base.specs.Word.{has_bit, bit_number}
use Rattle.pwm_block.specs.State.{Slice, State, slice_at_reset, at_reset, is_enabled, is_phase_correct, mode_of, divisor_of}
use Rattle.pwm_block.specs.Step.{counted, after_slice, has_wrap, after_step}
use Rattle.pwm_block.specs.Outputs.{output_a, output_b, pins_of, wires_of}
use Rattle.pwm_block.specs.Words.{with_cc, with_top, read_at, write_at}
use Rattle.pwm_block.specs.Packing.{words_of}
use Rattle.pwm_block.specs.Device.{pwm_device}

-- ---- so many cycles of a slice

-- a slice after so many cycles, by the levels of its input, from the one before the first cycle on, and how often it wraps in them
abbrev pub after_cycles : (ℕ → Bool) → ℕ → Slice → Slice
after_cycles input zero s = s
after_cycles input (suc n) s = after_slice (input (suc n)) (input n) (after_cycles input n s)

abbrev pub wraps_in : (ℕ → Bool) → ℕ → Slice → ℕ
wraps_in input zero s = 0
wraps_in input (suc n) s = wraps_in input n s + bit_number (has_wrap (input (suc n)) (input n) (after_cycles input n s))

-- a slice that counts all cycles, up alone, with CC and TOP as they were written
pub record RunsFree (s : Slice) : Type 0 where
  pub enabled : is_enabled s ≡ true
  pub always : mode_of s ≡ 0
  pub upward : is_phase_correct s ≡ false
  pub cc : s.live_cc ≡ s.cc
  pub top : s.live_top ≡ s.top
  pub sixteen : s.live_top < 2 ^ 16
  pub within : s.ctr ≤ s.live_top
  pub part : s.acc < divisor_of s

-- the counts of so many cycles, from 0 on
abbrev pub counts_of : Slice → ℕ → ℕ
counts_of s n = s.ctr + (16 * n + s.acc) / divisor_of s

-- it has counted and wrapped as often as the divider says
pub record HasCounted (input : ℕ → Bool) (n : ℕ) (s : Slice) : Type 0 where
  pub ctr : (after_cycles input n s).ctr ≡ counts_of s n % (s.live_top + 1)
  pub wraps : wraps_in input n s ≡ counts_of s n / (s.live_top + 1)

abbrev pub CountsAreThoseOfTheDivider : Type 0
CountsAreThoseOfTheDivider = (input : ℕ → Bool) (n : ℕ) (s : Slice) → RunsFree s → HasCounted input n s

-- a slice that is not enabled stays as it is
pub record StaysAsItIs (input was : Bool) (s : Slice) : Type 0 where
  pub slice : after_slice input was s ≡ s
  pub wrap : has_wrap input was s ≡ false

abbrev pub ADisabledSliceKeepsStill : Type 0
ADisabledSliceKeepsStill = (input was : Bool) (s : Slice) → is_enabled s ≡ false → StaysAsItIs input was s

-- CC or TOP that is written to an enabled slice counts from its next wrap on, and not before
pub record ShowsAtTheWrap (input : ℕ → Bool) (n w : ℕ) (s : Slice) : Type 0 where
  pub cc :
      (after_cycles input n (with_cc w s)).live_cc ≡ (if wraps_in input n (with_cc w s) == 0 then s.live_cc else w)
  pub top :
      (after_cycles input n (with_top w s)).live_top
      ≡ (if wraps_in input n (with_top w s) == 0 then s.live_top else w % 2 ^ 16)

abbrev pub AWriteShowsAtTheWrap : Type 0
AWriteShowsAtTheWrap = (input : ℕ → Bool) (n w : ℕ) (s : Slice) → is_enabled s ≡ true → ShowsAtTheWrap input n w s

-- ---- so many counts of a slice

abbrev pub after_counts : ℕ → Slice → Slice
after_counts zero s = s
after_counts (suc n) s = counted (after_counts n s)

-- how many of the first so many counts find output A high
abbrev pub highs_of : ℕ → Slice → ℕ
highs_of zero s = 0
highs_of (suc n) s = highs_of n s + bit_number (output_a (after_counts n s))

-- a slice at the start of a period, with CC and TOP as they were written
pub record IsAtStart (s : Slice) : Type 0 where
  pub ctr : s.ctr ≡ 0
  pub way : s.down ≡ false
  pub cc : s.live_cc ≡ s.cc
  pub top : s.live_top ≡ s.top
  pub sixteen : s.live_top < 2 ^ 16

-- over one period, of TOP + 1 counts, output A is high for CC of them, where it is not inverted, and at most for all
abbrev pub OutputAIsHighForCc : Type 0
OutputAIsHighForCc =
    (s : Slice)
    → IsAtStart s
    → is_phase_correct s ≡ false
    → has_bit s.csr 2 ≡ false
    → highs_of (s.live_top + 1) s ≡ min (s.live_cc % 2 ^ 16) (s.live_top + 1)

-- with PH_CORRECT a period has 2 (TOP + 1) counts: it rises to TOP, and falls as it rose
pub record IsSymmetric (s : Slice) : Type 0 where
  pub period : after_counts (2 * (s.live_top + 1)) s ≡ s
  pub rises : (k : ℕ) → k ≤ s.live_top → (after_counts k s).ctr ≡ k
  pub mirrored : (k : ℕ) → k ≤ s.live_top → (after_counts (2 * (s.live_top + 1) - 1 - k) s).ctr ≡ k

abbrev pub PhaseCorrectPeriodsAreSymmetric : Type 0
PhaseCorrectPeriodsAreSymmetric = (s : Slice) → IsAtStart s → is_phase_correct s ≡ true → IsSymmetric s

-- ---- the words

-- eight slices with a CSR of six bits, and interrupts of eight slices
pub record IsWhole (b : State) : Type 0 where
  pub eight : length b.slices ≡ 8
  pub csr : AllByRecursion (λ s. s.csr < 2 ^ 6) b.slices
  pub raised : b.raised < 2 ^ 8
  pub enabled : b.enabled < 2 ^ 8
  pub forced : b.forced < 2 ^ 8

-- words hold a block
pub record Holds (ws : List ℕ) (b : State) : Type 0 where
  pub words : ws ≡ words_of b
  pub whole : IsWhole b

-- each call of the device does to words that hold a block what it does to the block
pub record DoAsTheBlock (ws : List ℕ) (b : State) : Type 0 where
  pub value : (address : ℕ) → pwm_device.value ws address ≡ read_at address b
  pub after_read : (address : ℕ) → Holds (pwm_device.after_read ws address) b
  pub after_write : (address value : ℕ) → Holds (pwm_device.after_write ws address value) (write_at address value b)
  pub wires : (cycle pads : ℕ) → pwm_device.wires ws cycle pads ≡ wires_of b
  pub after_step : (cycle pads : ℕ) → Holds (pwm_device.after_step ws cycle pads) (after_step pads b)

pub record AreTheBlock : Type 0 where
  pub first : (ws : List ℕ) → Holds (pwm_device.first ws) at_reset
  pub calls : (ws : List ℕ) (b : State) → Holds ws b → DoAsTheBlock ws b

abbrev pub TheWordsHoldTheBlock : Type 0
TheWordsHoldTheBlock = AreTheBlock

-- pin p has output A or B of slice p div 2, from 16 on of the slices anew
pub record HasItsOutput (b : State) (n : ℕ) : Type 0 where
  pub even : has_bit (pins_of b) (2 * n) ≡ output_a (slice_index_or b.slices (n % 8) slice_at_reset)
  pub odd : has_bit (pins_of b) (2 * n + 1) ≡ output_b (slice_index_or b.slices (n % 8) slice_at_reset)

abbrev pub EachPinHasItsOutput : Type 0
EachPinHasItsOutput = (b : State) (n : ℕ) → length b.slices ≡ 8 → n < 16 → HasItsOutput b n

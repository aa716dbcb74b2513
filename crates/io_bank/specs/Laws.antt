-- Laws of the pins' interrupts (RP2040 Datasheet, 2.19.3, Interrupts, and 2.19.6.1, INTR0 to PROC1_INTS3).
use Rattle.std.specs.Prelude.{◌≡◌, ℕ, ◌+◌, ◌*◌, ◌/◌, ◌%◌, ◌<◌, Bool, false, not, ◌&&◌, ◌||◌, Option, Some, unwrap_or}
use Rattle.rp_base.specs.Rows as rows
use Rattle.rp_base.specs.Word.{has_bit}
use Rattle.io_bank.specs.declared.outputs.Outs.{Outs}
use Rattle.io_bank.specs.State.{State}
use Rattle.io_bank.specs.Levels.{input_of}
use Rattle.io_bank.specs.Step.{after_step}
use Rattle.io_bank.specs.Words.{bank_rows, after_any}

-- ---- what interrupts a core

-- what a word reads as where the block is not held
abbrev pub read : State → Outs → ℕ → ℕ
read s outs offset = unwrap_or (rows.word_at bank_rows outs offset s) 0

-- a bit of INTS is that of INTR where INTE enables it, and that of INTF whatever is enabled
pub record IsShown (s : State) (outs : Outs) (n bit : ℕ) : Type 0 where
  pub core0 :
      has_bit (read s outs (0x120 + 4 * n)) bit
      ≡ (has_bit (read s outs (0x0f0 + 4 * n)) bit && has_bit (read s outs (0x100 + 4 * n)) bit)
      || has_bit (read s outs (0x110 + 4 * n)) bit
  pub core1 :
      has_bit (read s outs (0x150 + 4 * n)) bit
      ≡ (has_bit (read s outs (0x0f0 + 4 * n)) bit && has_bit (read s outs (0x130 + 4 * n)) bit)
      || has_bit (read s outs (0x140 + 4 * n)) bit

abbrev pub WhatIsEnabledOrForcedIsShown : Type 0
WhatIsEnabledOrForcedIsShown = (s : State) (outs : Outs) (n bit : ℕ) → n < 4 → bit < 32 → IsShown s outs n bit

-- ---- edges

-- what drives the pads in a cycle
pub record Driven : Type 0 where
  pub outs : Outs
  pub outside : ℕ → Option Bool

abbrev pub stepped : Driven → State → State
stepped d s = after_step d.outs d.outside s

-- INTR: the bits of a pin for an edge to low and for one to high
abbrev pub has_fallen : ℕ → Outs → State → Bool
has_fallen pin outs s = has_bit (read s outs (0x0f0 + 4 * (pin / 8))) (4 * (pin % 8) + 2)

abbrev pub has_risen : ℕ → Outs → State → Bool
has_risen pin outs s = has_bit (read s outs (0x0f0 + 4 * (pin / 8))) (4 * (pin % 8) + 3)

-- the input of a pin by the pad as it is in the cycle that has ended
abbrev pub input_now : ℕ → State → Bool
input_now pin s = input_of s s.current pin

-- a change of an input in one cycle is latched in the cycle after the next one, and nothing else is; what is latched stays
pub record IsLatched (s : State) (a b c : Driven) (pin : ℕ) (outs : Outs) : Type 0 where
  pub fall :
      has_fallen pin outs (stepped c (stepped b (stepped a s)))
      ≡ has_fallen pin outs (stepped b (stepped a s)) || (input_now pin s && not (input_now pin (stepped a s)))
  pub rise :
      has_risen pin outs (stepped c (stepped b (stepped a s)))
      ≡ has_risen pin outs (stepped b (stepped a s)) || (not (input_now pin s) && input_now pin (stepped a s))

abbrev pub AnEdgeIsLatchedTwoCyclesLater : Type 0
AnEdgeIsLatchedTwoCyclesLater =
    (s : State) (a b c : Driven) (pin : ℕ) (outs : Outs) → s.bank_held ≡ false → pin < 30 → IsLatched s a b c pin outs

-- a 1 that is written to INTR clears the edge of its bit, but not one of the same cycle; a 0 leaves it
pub record IsCleared (s : State) (pin w : ℕ) (outs : Outs) : Type 0 where
  pub fall :
      has_fallen pin outs (after_any (0x0f0 + 4 * (pin / 8)) (Some w) s)
      ≡ has_fallen pin outs s && (has_bit s.fresh.low pin || not (has_bit w (4 * (pin % 8) + 2)))
  pub rise :
      has_risen pin outs (after_any (0x0f0 + 4 * (pin / 8)) (Some w) s)
      ≡ has_risen pin outs s && (has_bit s.fresh.high pin || not (has_bit w (4 * (pin % 8) + 3)))

abbrev pub AWriteClearsAnEdge : Type 0
AWriteClearsAnEdge = (s : State) (pin w : ℕ) (outs : Outs) → pin < 30 → IsCleared s pin w outs

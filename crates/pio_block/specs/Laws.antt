-- Laws of a block: of each pin the highest machine that wrote it decides (RP2040 Datasheet, 3.5.6), a block rests in its reset state
-- (2.14), and no FIFO holds more words than it has room for (3.5.3), whatever happens to the block.
use Rattle.std.specs.Prelude.{◌≡◌, ℕ, ◌<◌, List, [], ◌∷◌, length, Option}
use Rattle.std.specs.Int.{bit_at}
use Rattle.lane_look.specs.Steps.{NeverActs}
use Rattle.pio_machine.specs.declared.machine.Machine1.{Machine1}
use Rattle.pio_machine.specs.declared.machine.Seen.{Seen}
use Rattle.pio_machine.specs.declared.machine.Done.{Done}
use Rattle.pio_machine.specs.Start.{nothing_done}
use Rattle.pio_machine.specs.Clock.{IsWithin}
use Rattle.pio_machine.specs.Cycle.{written_in_cycle}
use Rattle.pio_block.specs.declared.inputs.Inputs.{Inputs}
use Rattle.pio_block.specs.State.{State, at_reset, machine_of}
use Rattle.pio_block.specs.Cycle.{seen_by, after_cycle, asks, wanted, next}
use Rattle.pio_block.specs.Words.{effect_of, counter_set}

-- ---- the pins

-- what the machine of this number writes in a cycle, for itself
abbrev pub own : ℕ → Seen → List Machine1 → Done
own number seen ms = written_in_cycle number seen (machine_of number ms) nothing_done

-- the pin has the bit of the highest of the four that wrote it, and where none did the one that it had
pub record IsOfTheHighest (mask bit : ℕ → ℕ) (before after : ℕ) : Type 0 where
  pub decided : (k : ℕ) → k < 4 → mask k ≡ 1 → ((j : ℕ) → k < j → j < 4 → mask j ≡ 0) → after ≡ bit k
  pub stays : ((j : ℕ) → j < 4 → mask j ≡ 0) → after ≡ before

pub record IsDecided (pin : ℕ) (seen : Seen) (s after : State) : Type 0 where
  pub level : IsOfTheHighest (λ k. bit_at (own k seen s.machines).level_mask pin) (λ k. bit_at (own k seen s.machines).levels pin)
      (bit_at s.levels pin) (bit_at after.levels pin)
  pub enable : IsOfTheHighest (λ k. bit_at (own k seen s.machines).enable_mask pin) (λ k. bit_at (own k seen s.machines).enables pin)
      (bit_at s.enables pin) (bit_at after.enables pin)

abbrev pub TheHighestMachineDecides : Type 0
TheHighestMachineDecides =
    (now second pin : ℕ) (s : State)
    → length s.machines ≡ 4
    → pin < 32
    → IsDecided pin (seen_by now second s) s (after_cycle now second s)

-- ---- the reset state

-- in it, and so where it is held, a block asks nothing, wants nothing and stays as it is
abbrev pub ABlockAtResetNeverActs : Type 0
ABlockAtResetNeverActs = NeverActs (λ s cycle. asks s) (λ begun. wanted) (λ s begun turns. next begun s) at_reset

-- ---- the FIFOs

-- of each machine, neither FIFO holds more words than it has room for
abbrev pub AreWithin : List Machine1 → Type 0
AreWithin [] = Unit {0}
AreWithin (m ∷ ms) = IsWithin m × AreWithin ms

-- what happens to a block: a cycle, with what it has begun in it, an access to a word, a reset, and a program counter that is
-- set where a program is loaded
pub data Happening : Type 0 where
  Cycle : (begun : Option Inputs) → Happening
  Access : (offset : ℕ) (write : Option ℕ) → Happening
  Reset : Happening
  Counter : (machine address : ℕ) → Happening

abbrev pub after : Happening → State → State
after (Cycle begun) s = next begun s
after (Access offset write) s = effect_of offset write s
after Reset s = at_reset
after (Counter machine address) s = counter_set machine address s

-- the block after all of these
abbrev pub after_all : List Happening → State → State
after_all [] s = s
after_all (h ∷ hs) s = after_all hs (after h s)

-- whatever happens to a block from its reset state on, in any order
abbrev pub NoFifoHoldsTooMuch : Type 0
NoFifoHoldsTooMuch = (hs : List Happening) → AreWithin (after_all hs at_reset).machines

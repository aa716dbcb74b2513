-- What RESETS holds of the machine (RP2040 Datasheet, 2.14, Subsystem Resets): a held block is in its reset state, from the start of a
-- run on and whatever the others do; it reads as 0, and no access changes it.
use Rattle.std.specs.Prelude.{◌≡◌, ℕ, Bool, true, if◌then◌else◌, Option, Some, None}
use Rattle.lane_look.specs.Device.{DeviceMeaning}
use Rattle.uf2_image.specs.declared.parts.Image.{Image}
use Rattle.dma_engine.specs.State as dma
use Rattle.dma_engine.specs.Words as dma_words
use Rattle.pio_block.specs.State as pio
use Rattle.pio_block.specs.Words as pio_words
use Rattle.outer_lane.specs.declared.world.SeenOutputs.{SeenOutputs}
use Rattle.outer_lane.specs.Setting.{Setting}
use Rattle.rp_machine.specs.State.{State, first_state}
use Rattle.rp_machine.specs.Registers.{Part, part_word, part_accessed}
use Rattle.rp_machine.specs.Registers.Part.{Dma, Pio0, Pio1}
use Rattle.rp_machine.specs.Cycle.{next}

-- the DMA engine and the PIO blocks, where they are held, are in their reset states
pub record HeldAreReset (s : State) : Type 0 where
  pub engine : s.dma.held ≡ true → s.dma.block ≡ dma.at_reset
  pub block0 : s.pio0.held ≡ true → s.pio0.block ≡ pio.at_reset
  pub block1 : s.pio1.held ≡ true → s.pio1.block ≡ pio.at_reset

-- a part reads as 0 where it has a word, and no access changes the machine
pub record IsStill (part : Part) (is_word : ℕ → Bool) (s : State) : Type 0 where
  pub reads : (offset : ℕ) (w : Setting) (seen : SeenOutputs) → part_word part offset w seen s ≡ (if is_word offset then Some 0 else None)
  pub accesses : (offset : ℕ) (write : Option ℕ) → part_accessed part offset write s ≡ s

pub record AHeldBlockStays : Type 0 where
  pub first : (device : DeviceMeaning) (image : Image) → HeldAreReset (first_state device image)
  pub next : (w : Setting) (s : State) → HeldAreReset s → HeldAreReset (next w s)
  pub engine : (s : State) → s.dma.held ≡ true → IsStill Dma dma_words.is_word s
  pub block0 : (s : State) → s.pio0.held ≡ true → IsStill Pio0 pio_words.is_word s
  pub block1 : (s : State) → s.pio1.held ≡ true → IsStill Pio1 pio_words.is_word s

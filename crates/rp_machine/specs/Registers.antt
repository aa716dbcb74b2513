-- The words of the register blocks: what they read as, whether an access to one is allowed, and what it does (RP2040 Datasheet,
-- 2.1.2 "Atomic Register Access", 2.1.4 "Narrow IO Register Writes", 2.14.3 "List of Registers" of RESETS).
use Rattle.std.specs.Prelude.{ℕ, ◌-◌, ◌%◌, ◌^◌, Bool, true, List, [], ◌∷◌, Option, Some, None, slice_index, slice_set, ⊤}
use Rattle.rp_base.specs.declared.Request.{Request}
use Rattle.rp_base.specs.declared.map.Block.{Block}
use Rattle.rp_base.specs.declared.map.Block.TheVariants as block
use Rattle.rp_base.specs.Access.{replicated}
use Rattle.rp_base.specs.Alias.{aliased}
use Rattle.rp_base.specs.Held.{unless_held}
use Rattle.rp_base.specs.Resettable.{with_held, unless_held_becomes}
use Rattle.rp_base.specs.Rows.{Row, read_only, read_write, word_at, effect_at}
use Rattle.rp_base.specs.Word.{has_bit}
use Rattle.rp_base.specs.ResetBits.{DMA, PIO0, PIO1}
use Rattle.bus_fabric.specs.Words as busctrl
use Rattle.dma_engine.specs.State as dma_state
use Rattle.dma_engine.specs.Words as dma
use Rattle.pio_block.specs.State as pio_state
use Rattle.pio_block.specs.Words as pio
use Rattle.outer_lane.specs.declared.world.SeenOutputs.{SeenOutputs}
use Rattle.outer_lane.specs.Setting.{Setting}
use Rattle.outer_lane.specs.State.{outer_reset}
use Rattle.outer_lane.specs.Words.{outer_word, outer_accessed}
use Rattle.rp_machine.specs.State.{State}

-- ---- RESETS

-- a block whose bit is set gets its reset state, and is held in it until the bit is clear
unfoldable pub with_reset : ℕ → State → State
with_reset w s = record s {
  dma = with_held (has_bit w DMA) dma_state.at_reset s.dma;
  pio0 = with_held (has_bit w PIO0) pio_state.at_reset s.pio0;
  pio1 = with_held (has_bit w PIO1) pio_state.at_reset s.pio1;
  outer = outer_reset w s.outer;
  resets = slice_set s.resets 0 w;
}

-- RESET has a bit for each of 25 blocks, WDSEL is kept, and RESET_DONE is the complement of RESET
abbrev pub resets_rows : List (Row ⊤ State)
resets_rows =
    read_write 0x0 "RESET" (λ s. slice_index s.resets 0) (λ w. with_reset (w % 2 ^ 25))
    ∷ read_write 0x4 "WDSEL" (λ s. slice_index s.resets 1) (λ w s. record s { resets = slice_set s.resets 1 w })
    ∷ read_only 0x8 "RESET_DONE" (λ s. 2 ^ 25 - 1 - slice_index s.resets 0)
    ∷ []

-- ---- all blocks

-- the part of the machine that a block stands in; the peripherals have several
pub data Part : Type 0 where
  Resets : Part
  Fabric : Part
  Dma : Part
  Pio0 : Part
  Pio1 : Part
  Outer : (block : Block) → Part

abbrev pub part_of : Block → Part
part_of block.Resets = Resets
part_of block.Busctrl = Fabric
part_of block.Dma = Dma
part_of block.Pio0 = Pio0
part_of block.Pio1 = Pio1
part_of other = Outer other

-- what a word reads as at the start of a cycle, in which the peripherals have seen this; None where the part has no such word
unfoldable pub part_word : Part → ℕ → Setting → SeenOutputs → State → Option ℕ
part_word Resets offset w seen s = word_at resets_rows tt offset s
part_word Fabric offset w seen s = busctrl.word_of offset s.fabric
part_word Dma offset w seen s = unless_held s.dma.held (dma.word_of offset s.dma.block)
part_word Pio0 offset w seen s = unless_held s.pio0.held (pio.word_of offset s.pio0.block)
part_word Pio1 offset w seen s = unless_held s.pio1.held (pio.word_of offset s.pio1.block)
part_word (Outer block) offset w seen s = outer_word block offset w seen s.outer

-- whether a read, or a write of this word, is allowed where there is the word: OUT_STICKY and INLINE_OUT_EN of PIO are left out
abbrev pub part_allows : Part → ℕ → Option ℕ → Bool
part_allows Pio0 offset write = pio.is_allowed offset write
part_allows Pio1 offset write = pio.is_allowed offset write
part_allows _ offset write = true

-- what a read, or a write of this word, does
unfoldable pub part_accessed : Part → ℕ → Option ℕ → State → State
part_accessed Resets offset write s = effect_at resets_rows offset write s
part_accessed Fabric offset write s = record s { fabric = busctrl.effect_of offset write s.fabric }
part_accessed Dma offset write s = record s { dma = unless_held_becomes s.dma (dma.effect_of offset write s.dma.block) }
part_accessed Pio0 offset write s = record s { pio0 = unless_held_becomes s.pio0 (pio.effect_of offset write s.pio0.block) }
part_accessed Pio1 offset write s = record s { pio1 = unless_held_becomes s.pio1 (pio.effect_of offset write s.pio1.block) }
part_accessed (Outer block) offset write s = record s { outer = outer_accessed block offset write s.outer }

-- ---- aliases: a write through one changes the word as it is at the start of the cycle

-- the plain write of a request through an alias, where the word reads so at the start; a narrow write stands on all lanes
abbrev pub plain_write : Request → Option ℕ → ℕ → ℕ → Option ℕ
plain_write request None alias word = None
plain_write request (Some value) alias word = Some (aliased alias word (replicated request.size value))

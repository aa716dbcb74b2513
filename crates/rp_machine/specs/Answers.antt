-- What the machine answers a lane, by the lane's number and the state at the start of a cycle. Lanes 0 and 1 are the cores, 2
-- is the DMA engine, 3 and 4 are the PIO blocks, and 5 has the peripherals.
use Rattle.std.specs.Prelude.{ℕ, ◌+◌, ◌*◌, ◌^◌, ◌==◌, if◌then◌else◌, Bool, false, List, ◌++◌, bit_or, slice_index, slice_index_or, unwrap_or}
use Rattle.rp_base.specs.Map.{place_of}
use Rattle.rp_base.specs.Word.{bit_number}
use Rattle.lane_look.specs.declared.lane.Ask.{Ask}
use Rattle.lane_look.specs.declared.lane.Ask.TheVariants as ask
use Rattle.dma_engine.specs.Words as dma
use Rattle.dma_engine.specs.Pace.{packed_counts}
use Rattle.pio_block.specs.State.{State as Pio}
use Rattle.pio_block.specs.Words as pio
use Rattle.outer_lane.specs.Lines.{outer_lines, outer_inputs, outer_pacing}
use Rattle.sio_block.specs.State.{State as SioState}
use Rattle.sio_block.specs.Side.{line_of}
use Rattle.rp_machine.specs.Sram.{half_of, ram_word}
use Rattle.rp_machine.specs.State.{State}

-- ---- interrupt lines (RP2040 Datasheet, 2.3.2, Interrupts): PIO0 7 and 8, PIO1 9 and 10, DMA 11 and 12, SIO 15 of core 0 and
-- 16 of core 1, and those of the peripherals and of the device

-- two lines, the first one lowest
abbrev pub pair_number : List Bool → ℕ
pair_number lines = bit_number (slice_index_or lines 0 false) + bit_number (slice_index_or lines 1 false) * 2

abbrev pub sio_lines : ℕ → SioState → ℕ
sio_lines core s =
    if core == 0 then bit_number (line_of s.core0) * 2 ^ 15 else bit_number (line_of s.core1) * 2 ^ 16

-- those of PIO and the DMA engine go to both cores
abbrev pub shared_lines : State → ℕ
shared_lines s =
    pair_number (pio.lines_of s.pio0.block) * 2 ^ 7 + pair_number (pio.lines_of s.pio1.block) * 2 ^ 9
    + pair_number (dma.lines_of s.dma.block) * 2 ^ 11

unfoldable pub block_lines : ℕ → State → ℕ
block_lines core s = shared_lines s + sio_lines core s.sio

unfoldable pub lines_of : ℕ → State → ℕ
lines_of core s = bit_or (outer_lines core s.outer) (block_lines core s)

-- ---- words of SRAM

-- the word of SRAM that holds an address; elsewhere there is none
abbrev pub word_in : List ℕ → ℕ → ℕ
word_in sram address = unwrap_or (ram_word sram (place_of address)) 0

-- ---- the counts that pace DMA channels (RP2040 Datasheet, 2.5.3.1, System DREQ Table)

-- of each PIO block the room left in the TX FIFOs and the words of the RX FIFOs, and of each UART the same: in one number, in the order of
-- the DREQs
unfoldable pub pacing_of : State → ℕ
pacing_of s = packed_counts (pio.pacing_of s.pio0.block.machines ++ (pio.pacing_of s.pio1.block.machines ++ outer_pacing s.outer))

-- ---- pins: two words in one number, the first one lowest

abbrev pub packed_pair : List ℕ → ℕ
packed_pair words = slice_index words 0 + slice_index words 1 * 2 ^ 32

-- the levels of the inputs now, and the second ones
unfoldable pub inputs_of : State → ℕ
inputs_of s = packed_pair (outer_inputs s.outer)

-- the levels and the enables that a PIO block puts out
abbrev pub pio_of : ℕ → State → Pio
pio_of block s = if block == 0 then s.pio0.block else s.pio1.block

unfoldable pub outs_of : ℕ → State → ℕ
outs_of block s = packed_pair (pio.outs_of (pio_of block s))

-- ---- all questions

abbrev pub answer_of : ℕ → State → Ask → ℕ
answer_of lane s ask.Lines = lines_of lane s
answer_of lane s (ask.Half address) = half_of (word_in s.sram address) address
answer_of lane s (ask.Word address) = word_in s.sram address
answer_of lane s ask.Pacing = pacing_of s
answer_of lane s ask.Inputs = inputs_of s
answer_of lane s (ask.Outs block) = outs_of block s

-- Which interrupt of which core is whose (RP2040 Datasheet, 2.3.2, Interrupts), and who gets a spinlock (2.3.1.3).
use Rattle.std.specs.Prelude.{◌≡◌, ℕ, ◌+◌, ◌*◌, ◌^◌, ◌<◌, ◌==◌, ◌&&◌, ◌||◌, Bool, false, List, None, slice_index_or}
use Rattle.rp_base.specs.declared.Master.TheVariants as master
use Rattle.rp_base.specs.declared.Request.{Request}
use Rattle.rp_base.specs.declared.map.Spot.TheVariants as spot
use Rattle.rp_base.specs.Map.{place_of}
use Rattle.rp_base.specs.Word.{has_bit}
use Rattle.lane_look.specs.declared.lane.Turn.TheVariants as turn
use Rattle.lane_look.specs.declared.lane.Want.TheVariants as want
use Rattle.dma_engine.specs.Words as dma
use Rattle.pio_block.specs.Words as pio
use Rattle.rp_timer.specs.State as timer
use Rattle.rp_uart.specs.Interrupts.{is_line_high}
use Rattle.sio_block.specs.Side.{line_of}
use Rattle.outer_lane.specs.declared.world.SeenOutputs.{SeenOutputs}
use Rattle.outer_lane.specs.Lines.{bank_line}
use Rattle.outer_lane.specs.Setting.{Setting}
use Rattle.rp_machine.specs.Answers.{lines_of}
use Rattle.rp_machine.specs.Deeds.{turn_of}
use Rattle.rp_machine.specs.State.{State}

-- ---- interrupt lines

-- the lines of a core that stand at a number
abbrev pub line_at : List Bool → ℕ → Bool
line_at lines k = slice_index_or lines k false

abbrev pub has_line : ℕ → State → ℕ → Bool
has_line core s n = has_bit (lines_of core s) n

-- those of the device come to each of these numbers, 0 to 31
abbrev pub with_device : State → ℕ → Bool → Bool
with_device s n line = has_bit s.outer.irq n || line

-- of core 0 and core 1: TIMER 0 to 3, PIO0 7 and 8, PIO1 9 and 10, DMA 11 and 12, IO_BANK0 13, SIO 15 of core 0 and 16 of core 1,
-- UART0 20 and UART1 21
pub record AreNumbered (core : ℕ) (s : State) : Type 0 where
  pub timer : (n : ℕ) → n < 4 → has_line core s n ≡ with_device s n (has_bit (timer.lines_of s.outer.timer.block) n)
  pub pio0_0 : has_line core s 7 ≡ with_device s 7 (line_at (pio.lines_of s.pio0.block) 0)
  pub pio0_1 : has_line core s 8 ≡ with_device s 8 (line_at (pio.lines_of s.pio0.block) 1)
  pub pio1_0 : has_line core s 9 ≡ with_device s 9 (line_at (pio.lines_of s.pio1.block) 0)
  pub pio1_1 : has_line core s 10 ≡ with_device s 10 (line_at (pio.lines_of s.pio1.block) 1)
  pub dma_0 : has_line core s 11 ≡ with_device s 11 (line_at (dma.lines_of s.dma.block) 0)
  pub dma_1 : has_line core s 12 ≡ with_device s 12 (line_at (dma.lines_of s.dma.block) 1)
  pub io_bank : has_line core s 13 ≡ with_device s 13 (bank_line core s.outer.pads)
  pub sio_0 : has_line core s 15 ≡ with_device s 15 (core == 0 && line_of s.sio.core0)
  pub sio_1 : has_line core s 16 ≡ with_device s 16 (core == 1 && line_of s.sio.core1)
  pub uart0 : has_line core s 20 ≡ with_device s 20 (is_line_high s.outer.uart0.block)
  pub uart1 : has_line core s 21 ≡ with_device s 21 (is_line_high s.outer.uart1.block)

abbrev pub EachLineHasItsNumber : Type 0
EachLineHasItsNumber = (core : ℕ) (s : State) → core < 2 → timer.lines_of s.outer.timer.block < 2 ^ 4 → AreNumbered core s

-- ---- spinlocks

-- a read of the word of a lock of SIO, at 0x100 and four bytes apart
abbrev pub IsLockRead : ℕ → Request → Type 0
IsLockRead n request = (place_of request.address ≡ spot.Sio (0x100 + 4 * n)) × (request.write ≡ None)

-- in a cycle in which both cores read a free lock core 0 gets its bit and core 1 reads 0; alone each gets it
pub record OneGetsIt (w : Setting) (seen : SeenOutputs) (s : State) (n : ℕ) (first second : Request) (granted : Bool) : Type 0 where
  pub core0 : turn_of w seen (want.Outward first) granted master.Core0 (want.Outward first) s ≡ turn.Done (2 ^ n)
  pub core1 : turn_of w seen (want.Outward first) granted master.Core1 (want.Outward second) s ≡ turn.Done 0
  pub alone : turn_of w seen want.Nothing granted master.Core1 (want.Outward second) s ≡ turn.Done (2 ^ n)

abbrev pub OneCoreGetsALock : Type 0
OneCoreGetsALock =
    (w : Setting) (seen : SeenOutputs) (s : State) (n : ℕ) (first second : Request) (granted : Bool) → n < 32
    → has_bit s.sio.locks.taken n ≡ false → IsLockRead n first → IsLockRead n second → OneGetsIt w seen s n first second granted

-- The timer and the UARTs, which lie behind: what they are after so many cycles, in which of these they are quiet, and what an access does.
-- No public contract names it.
use Rattle.std.specs.Prelude.{ℕ, Bool, true, false, List, [], Option, bit_or}
use Rattle.rp_base.specs.declared.map.Block.{Block}
use Rattle.rp_base.specs.Resettable.{let_go, with_held}
use Rattle.rp_base.specs.ResetBits.{TIMER, UART0, UART1}
use Rattle.rp_base.specs.Word.{has_bit}
use Rattle.lane_look.specs.Times.{times}
use Rattle.io_bank.specs.Levels.{receive_level, uart_outputs}
use Rattle.rp_uart.specs.State as uart
use Rattle.rp_uart.specs.Interrupts.{is_line_high}
use Rattle.rp_uart.specs.Step.{output_of}
use Rattle.rp_timer.specs.State as timer
use Rattle.rp_timer.specs.State.{lines_of}
use Rattle.outer_lane.specs.declared.blocks.Blocks.{Blocks}
use Rattle.outer_lane.specs.Lines.{block_lines}
use Rattle.outer_lane.specs.Quiet.{uart_cycle, is_pure_read, IsTimerQuiet, IsUartQuiet}
use Rattle.outer_lane.specs.State.{State, outer_at_start}
use Rattle.outer_lane.specs.Step.{timer_after, uart_after}
use Rattle.outer_lane.specs.Words.{own_word, outer_accessed}

-- the blocks, and what they are told: the levels of the lines that the UARTs hear
pub record Told : Type 0 where
  pub blocks : Blocks
  pub line0 : Bool
  pub line1 : Bool

-- those of the peripherals, and the peripherals with others
abbrev pub blocks_of : State → Blocks
blocks_of s = record { timer = s.timer; uart0 = s.uart0; uart1 = s.uart1 }

abbrev pub with_blocks : Blocks → State → State
with_blocks b s = record s { timer = b.timer; uart0 = b.uart0; uart1 = b.uart1 }

-- each is out of reset, and no pin has the function of a UART
abbrev pub blocks_at_start : Blocks
blocks_at_start = record { timer = let_go timer.at_reset; uart0 = let_go uart.at_reset; uart1 = let_go uart.at_reset }

abbrev pub told_at_start : Told
told_at_start = record { blocks = blocks_at_start; line0 = true; line1 = true }

-- a cycle in which the lines have these levels, and so many from a first one on
abbrev pub blocks_step : Bool → Bool → ℕ → Blocks → Blocks
blocks_step line0 line1 cycle b = record {
  timer = timer_after cycle b.timer;
  uart0 = uart_after line0 b.uart0;
  uart1 = uart_after line1 b.uart1;
}

abbrev pub blocks_after : Bool → Bool → ℕ → ℕ → Blocks → Blocks
blocks_after line0 line1 first n b = record {
  timer = times timer_after first n b.timer;
  uart0 = times (uart_cycle line0) first n b.uart0;
  uart1 = times (uart_cycle line1) first n b.uart1;
}

-- the same of the blocks with what they are told
abbrev pub told_step : ℕ → Told → Told
told_step cycle t = record t { blocks = blocks_step t.line0 t.line1 cycle t.blocks }

abbrev pub told_after : ℕ → ℕ → Told → Told
told_after first n t = record t { blocks = blocks_after t.line0 t.line1 first n t.blocks }

-- the same of the peripherals, as long as the pads stay
abbrev pub blocks_stepped : ℕ → State → State
blocks_stepped cycle s = with_blocks (blocks_step (receive_level 0 s.pads) (receive_level 1 s.pads) cycle (blocks_of s)) s

abbrev pub blocks_passed : ℕ → ℕ → State → State
blocks_passed first n s = with_blocks (blocks_after (receive_level 0 s.pads) (receive_level 1 s.pads) first n (blocks_of s)) s

-- for so many cycles from a first one on each of them is quiet
pub record AreBlocksQuiet (line0 line1 : Bool) (b : Blocks) (first n : ℕ) : Type 0 where
  pub timer : IsTimerQuiet b.timer first n
  pub uart0 : IsUartQuiet line0 b.uart0 first n
  pub uart1 : IsUartQuiet line1 b.uart1 first n

-- what the UARTs put out
abbrev pub blocks_outs : Blocks → List ℕ
blocks_outs b = uart_outputs (output_of b.uart0.block) (output_of b.uart1.block)

-- their interrupt lines
abbrev pub blocks_lines : Blocks → ℕ
blocks_lines b = bit_or (lines_of b.timer.block) (block_lines false (is_line_high b.uart0.block) (is_line_high b.uart1.block))

-- what their words read as, and what a read or a write of one of these does, whatever the other peripherals are
abbrev pub blocks_word : Block → ℕ → Blocks → Option ℕ
blocks_word block offset b = own_word block offset (with_blocks b (outer_at_start []))

abbrev pub blocks_accessed : Block → ℕ → Option ℕ → Blocks → Blocks
blocks_accessed block offset write b = blocks_of (outer_accessed block offset write (with_blocks b (outer_at_start [])))

-- a read that changes nothing
abbrev pub blocks_pure : Block → ℕ → Blocks → Bool
blocks_pure block offset b = is_pure_read block offset (with_blocks b (outer_at_start []))

-- what the bits of RESETS do
abbrev pub blocks_reset : ℕ → Blocks → Blocks
blocks_reset w b = record {
  timer = with_held (has_bit w TIMER) timer.at_reset b.timer;
  uart0 = with_held (has_bit w UART0) uart.at_reset b.uart0;
  uart1 = with_held (has_bit w UART1) uart.at_reset b.uart1;
}

-- What the other lanes ask of the peripherals. The interrupt lines of a core that come from them (RP2040 Datasheet, 2.3.2, Interrupts): TIMER 0 to 3, IO_BANK0 13,
-- which is each core's own, UART0 20 and UART1 21, and those of the device.
use Rattle.std.specs.Prelude.{ℕ, ◌+◌, ◌*◌, ◌^◌, ◌==◌, Bool, if◌then◌else◌, List, [], ◌∷◌, ◌++◌, bit_or}
use Rattle.rp_base.specs.Word.{bit_number}
use Rattle.io_bank.specs.State.{State as Bank}
use Rattle.io_bank.specs.Levels.{inputs_of}
use Rattle.io_bank.specs.Interrupts.{line_of}
use Rattle.rp_uart.specs.Interrupts.{is_line_high}
use Rattle.rp_uart.specs.Step.{pacing_of}
use Rattle.rp_timer.specs.State.{lines_of}
use Rattle.outer_lane.specs.State.{State}

abbrev pub bank_line : ℕ → Bank → Bool
bank_line core b = if core == 0 then line_of b b.core0 else line_of b b.core1

-- the line of IO_BANK0 and those of the UARTs
unfoldable pub block_lines : Bool → Bool → Bool → ℕ
block_lines bank first second = bit_number bank * 2 ^ 13 + bit_number first * 2 ^ 20 + bit_number second * 2 ^ 21

unfoldable pub outer_lines : ℕ → State → ℕ
outer_lines core s =
    bit_or s.irq
    (bit_or (lines_of s.timer.block)
    (block_lines (bank_line core s.pads) (is_line_high s.uart0.block) (is_line_high s.uart1.block)))

-- what paces DMA channels: the free entries of the transmit FIFO and the words of the receive FIFO, of UART0 and then of UART1
abbrev pub outer_pacing : State → List ℕ
outer_pacing s = pacing_of s.uart0.block ++ pacing_of s.uart1.block

-- the input words, of the levels of the pads now and of the second ones
abbrev pub outer_inputs : State → List ℕ
outer_inputs s = inputs_of s.pads s.pads.current ∷ inputs_of s.pads s.pads.second ∷ []

-- The FIFOs' depth and trigger levels, and the interrupts (PrimeCell UART PL011 Technical Reference Manual, DDI 0183, 2.8,
-- interrupts, 3.3.7, UARTLCR_H, 3.3.9, UARTIFLS, and 3.3.11, UARTRIS; RP2040 Datasheet, 4.2, FIFOs of 32 entries).
use Rattle.std.specs.Prelude.{ℕ, ◌+◌, ◌*◌, ◌/◌, ◌%◌, ◌^◌, ◌==◌, Bool, not, nat_lt, if◌then◌else◌, length, bit_and, bit_or}
use Rattle.rp_base.specs.Word.{bit_number, minus}
use Rattle.rp_uart.specs.declared.receiver.Errors.{Errors}
use Rattle.rp_uart.specs.State.{State}

-- the interrupts as sets of bits of UARTRIS: RX, TX and RT
abbrev pub receive_interrupt : ℕ
receive_interrupt = 2 ^ 4

abbrev pub transmit_interrupt : ℕ
transmit_interrupt = 2 ^ 5

abbrev pub timeout_interrupt : ℕ
timeout_interrupt = 2 ^ 6

-- FE, PE, BE and OE, as UARTRSR has them in its lowest bits, UARTDR from bit 8 on, and UARTRIS from bit 7 on
abbrev pub error_bits : Errors → ℕ
error_bits e =
    bit_number e.framing + bit_number e.parity * 2 + bit_number e.break_line * 4 + bit_number e.overrun * 8

abbrev pub error_interrupts : Errors → ℕ
error_interrupts e = error_bits e * 2 ^ 7

-- how many bytes a FIFO holds
abbrev pub depth_of : State → ℕ
depth_of s = if s.line.fifos then 32 else 1

-- an eighth, a quarter, half, three quarters and seven eighths of 32; the codes above these act as the last
abbrev pub trigger_of : ℕ → ℕ
trigger_of code =
    if code == 0 then 4 else
    if code == 1 then 8 else
    if code == 2 then 16 else
    if code == 3 then 24 else 28

-- RXIFLSEL is bits 5:3 of UARTIFLS and TXIFLSEL bits 2:0; a single entry triggers when it is taken, or free
abbrev pub receive_trigger : State → ℕ
receive_trigger s = if s.line.fifos then trigger_of (s.levels / 8) else 1

abbrev pub transmit_trigger : State → ℕ
transmit_trigger s = if s.line.fifos then trigger_of (s.levels % 8) else 0

-- interrupts come and go
abbrev pub with_raw : ℕ → State → State
with_raw raw s = record s { raw = raw }

abbrev pub raised : ℕ → State → State
raised set s = with_raw (bit_or s.raw set) s

abbrev pub raised_if : Bool → ℕ → State → State
raised_if comes set s = if comes then raised set s else s

abbrev pub cleared : ℕ → State → State
cleared set s = with_raw (minus s.raw set) s

abbrev pub cleared_if : Bool → ℕ → State → State
cleared_if goes set s = if goes then cleared set s else s

-- RX goes below its trigger, TX above its trigger, and RT where no byte waits
unfoldable pub settled : State → State
settled s =
    cleared_if (length s.received == 0) timeout_interrupt
    (cleared_if (nat_lt (transmit_trigger s) (length s.to_send)) transmit_interrupt
    (cleared_if (nat_lt (length s.received) (receive_trigger s)) receive_interrupt s))

-- an interrupt that is not masked is told to the processors (UARTMIS)
abbrev pub masked : State → ℕ
masked s = bit_and s.raw s.mask

abbrev pub is_line_high : State → Bool
is_line_high s = not (masked s == 0)

-- The registers by their offsets, what they read as and what an access does (RP2040 Datasheet, 4.2, list of registers;
-- PrimeCell UART PL011 Technical Reference Manual, DDI 0183, 3.3, register descriptions).
use Rattle.std.specs.Prelude.{ℕ, ◌+◌, ◌*◌, ◌/◌, ◌%◌, ◌^◌, ◌==◌, Bool, true, false, not, ◌&&◌, ◌||◌, nat_lt, nat_le, if◌then◌else◌, List, [], ◌∷◌, ◌++◌, length, drop, Option, Some, None, slice_get, bit_and, ⊤}
use Rattle.rp_base.specs.Rows.{Row, read_only, write_only, read_write, register, word_at, has_row, effect_at, offset_in, IsListed}
use Rattle.rp_base.specs.Word.{has_bit, bit_number}
use Rattle.rp_uart.specs.declared.control.Control.{Control}
use Rattle.rp_uart.specs.declared.control.Divisor.{Divisor}
use Rattle.rp_uart.specs.declared.control.DmaControl.{DmaControl}
use Rattle.rp_uart.specs.declared.frame.LineControl.{LineControl}
use Rattle.rp_uart.specs.declared.frame.WordLength.{WordLength}
use Rattle.rp_uart.specs.declared.frame.WordLength.TheVariants.{Five, Six, Seven, Eight}
use Rattle.rp_uart.specs.declared.receiver.Errors.{Errors}
use Rattle.rp_uart.specs.declared.receiver.Received.{Received}
use Rattle.rp_uart.specs.declared.sender.Sender.{Sender}
use Rattle.rp_uart.specs.declared.sender.Sender.TheVariants as senders
use Rattle.rp_uart.specs.Interrupts.{depth_of, error_bits, masked, cleared, settled}
use Rattle.rp_uart.specs.Receiver.{with_overrun}
use Rattle.rp_uart.specs.State.{State, no_errors}

-- ---- UARTDR and UARTRSR

-- a byte with its errors; 0 where none waits
abbrev pub received_word : Option Received → ℕ
received_word None = 0
received_word (Some r) = r.byte + error_bits r.errors * 2 ^ 8

-- the errors of the byte that was read last, and that a byte was lost
abbrev pub status_of : State → Errors
status_of s = with_overrun (s.last.overrun || s.overrun) s.last

-- a read of UARTDR takes the oldest byte, whose errors UARTRSR has from then on
abbrev pub after_taking : Option Received → State → State
after_taking None s = s
after_taking (Some r) s =
    let rest = drop 1 s.received in
    record s { received = rest; last = r.errors; waited = if length rest == 0 then None else Some 0 }

-- a byte for a full FIFO is dropped
abbrev pub after_giving : ℕ → State → State
after_giving byte s =
    if nat_lt (length s.to_send) (depth_of s) then record s { to_send = s.to_send ++ byte ∷ [] } else s

-- any write of UARTRSR clears it
abbrev pub without_errors : State → State
without_errors s = record s { last = no_errors; overrun = false }

-- ---- UARTFR: TXFE, RXFF, TXFF, RXFE and BUSY, which is set while bytes wait to be sent or one is being sent

abbrev pub is_sending : Sender → Bool
is_sending senders.Idle = false
is_sending (senders.Frame f) = true

abbrev pub is_busy : State → Bool
is_busy s = nat_lt 0 (length s.to_send) || is_sending s.sender

abbrev pub flags_of : State → ℕ
flags_of s =
    bit_number (length s.to_send == 0) * 2 ^ 7 + bit_number (nat_le (depth_of s) (length s.received)) * 2 ^ 6
    + bit_number (nat_le (depth_of s) (length s.to_send)) * 2 ^ 5 + bit_number (length s.received == 0) * 2 ^ 4
    + bit_number (is_busy s) * 2 ^ 3

-- ---- UARTIBRD, UARTFBRD, UARTLCR_H and UARTCR

abbrev pub code_of : WordLength → ℕ
code_of Five = 0
code_of Six = 1
code_of Seven = 2
code_of Eight = 3

abbrev pub width_of_code : ℕ → WordLength
width_of_code code =
    if code == 0 then Five else
    if code == 1 then Six else
    if code == 2 then Seven else Eight

abbrev pub line_control_of : LineControl → ℕ
line_control_of line =
    bit_number line.parity * 2 + bit_number line.even * 4 + bit_number line.two_stops * 8 + bit_number line.fifos * 16
    + code_of line.width * 32

abbrev pub line_control_from : ℕ → LineControl
line_control_from w = record {
  parity = has_bit w 1;
  even = has_bit w 2;
  two_stops = has_bit w 3;
  fifos = has_bit w 4;
  width = width_of_code (w / 2 ^ 5 % 4);
}

abbrev pub control_of : Control → ℕ
control_of c =
    bit_number c.enabled + bit_number c.loopback * 2 ^ 7 + bit_number c.transmit * 2 ^ 8 + bit_number c.receive * 2 ^ 9

abbrev pub control_from : ℕ → Control
control_from w = record {
  enabled = has_bit w 0;
  loopback = has_bit w 7;
  transmit = has_bit w 8;
  receive = has_bit w 9;
}

abbrev pub with_divisor : Divisor → State → State
with_divisor divisor s = record s { divisor = divisor }

abbrev pub with_integer : ℕ → State → State
with_integer w s = with_divisor (record s.divisor { integer = w % 2 ^ 16 }) s

abbrev pub with_fraction : ℕ → State → State
with_fraction w s = with_divisor (record s.divisor { fraction = w % 2 ^ 6 }) s

-- ---- UARTDMACR

abbrev pub dma_control_of : DmaControl → ℕ
dma_control_of d = bit_number d.receive + bit_number d.transmit * 2

abbrev pub dma_control_from : ℕ → DmaControl
dma_control_from w = record { receive = has_bit w 0; transmit = has_bit w 1 }

-- ---- all registers

-- UARTICR clears the interrupts whose bits are 1
abbrev pub uart_rows : List (Row ⊤ State)
uart_rows =
    register 0x00 "UARTDR" (λ seen s. received_word (slice_get s.received 0)) (λ s. after_taking (slice_get s.received 0) s) (λ w s. after_giving (w % 2 ^ 8) s)
    ∷ read_write 0x04 "UARTRSR" (λ s. error_bits (status_of s)) (λ w s. without_errors s)
    ∷ read_only 0x18 "UARTFR" (λ s. flags_of s)
    ∷ read_write 0x24 "UARTIBRD" (λ s. s.divisor.integer) (λ w s. with_integer w s)
    ∷ read_write 0x28 "UARTFBRD" (λ s. s.divisor.fraction) (λ w s. with_fraction w s)
    ∷ read_write 0x2c "UARTLCR_H" (λ s. line_control_of s.line) (λ w s. record s { line = line_control_from w })
    ∷ read_write 0x30 "UARTCR" (λ s. control_of s.control) (λ w s. record s { control = control_from w })
    ∷ read_write 0x34 "UARTIFLS" (λ s. s.levels) (λ w s. record s { levels = w % 2 ^ 6 })
    ∷ read_write 0x38 "UARTIMSC" (λ s. s.mask) (λ w s. record s { mask = bit_and w 0x7F0 })
    ∷ read_only 0x3c "UARTRIS" (λ s. s.raw)
    ∷ read_only 0x40 "UARTMIS" (λ s. masked s)
    ∷ write_only 0x44 "UARTICR" (λ w s. cleared w s)
    ∷ read_write 0x48 "UARTDMACR" (λ s. dma_control_of s.dma) (λ w s. record s { dma = dma_control_from w })
    ∷ []

-- what a word reads as; None where there is none
abbrev pub word_of : ℕ → State → Option ℕ
word_of offset s = word_at uart_rows tt offset s

abbrev pub is_word : ℕ → Bool
is_word offset = has_row uart_rows offset

abbrev pub after_access : ℕ → Option ℕ → State → State
after_access offset write s = effect_at uart_rows offset write s

-- what a read or a write does; nothing where there is no such word
unfoldable pub effect_of : ℕ → Option ℕ → State → State
effect_of offset write s = if is_word offset then settled (after_access offset write s) else s

-- a read at this offset changes nothing: it is none of UARTDR, which takes a byte, and no interrupt goes by an access
abbrev pub is_pure_read : ℕ → State → Bool
is_pure_read offset s = not (offset == offset_in uart_rows "UARTDR") && (settled s).raw == s.raw

-- each register is what stands at its offset, and nothing stands at any other
abbrev pub EachRegisterIsAtItsOffset : Type 0
EachRegisterIsAtItsOffset = IsListed uart_rows

-- Receiving (PrimeCell UART PL011 Technical Reference Manual, DDI 0183, 2.4.3, UART operation: data reception and error bits,
-- 2.8, interrupts, 3.3.1, UARTDR, and 3.3.2, UARTRSR).
use Rattle.std.specs.Prelude.{ℕ, ◌+◌, ◌*◌, ◌/◌, ◌%◌, ◌^◌, ◌==◌, Bool, true, false, not, ◌&&◌, nat_lt, nat_le, if◌then◌else◌, [], ◌∷◌, ◌++◌, length, Option, Some, None, bit_or}
use Rattle.std.specs.Bool.{beq}
use Rattle.rp_base.specs.Word.{has_bit}
use Rattle.rp_uart.specs.declared.frame.LineControl.{LineControl}
use Rattle.rp_uart.specs.declared.receiver.Errors.{Errors}
use Rattle.rp_uart.specs.declared.receiver.Hearing.{Hearing}
use Rattle.rp_uart.specs.declared.receiver.Receiver.{Receiver}
use Rattle.rp_uart.specs.declared.receiver.Receiver.TheVariants as receivers
use Rattle.rp_uart.specs.Frame.{width_of, parity_bit, parity_at, stop_at}
use Rattle.rp_uart.specs.Interrupts.{depth_of, receive_trigger, receive_interrupt, timeout_interrupt, error_interrupts, raised, raised_if}
use Rattle.rp_uart.specs.Sender.{bit_time, is_over, elapsed_after}
use Rattle.rp_uart.specs.State.{State}

-- ---- a byte that came

-- the data bits of the samples of a frame, whose bit k is the level in bit k of the frame
abbrev pub byte_heard : LineControl → ℕ → ℕ
byte_heard line samples = samples / 2 % 2 ^ width_of line.width

-- the parity bit is not that of the data
abbrev pub has_parity_error : LineControl → ℕ → Bool
has_parity_error line samples =
    line.parity && not (beq (has_bit samples (parity_at line)) (parity_bit line (byte_heard line samples)))

-- the samples before the stop bit, and the stop bit's level: a low stop bit is a framing error, and a break where the line
-- was low all the time
abbrev pub errors_of : LineControl → ℕ → Bool → Errors
errors_of line samples stop = record {
  framing = not stop;
  parity = has_parity_error line samples;
  break_line = not stop && samples == 0;
  overrun = false;
}

abbrev pub with_overrun : Bool → Errors → Errors
with_overrun overrun e = record e { overrun = overrun }

-- the byte is stored, and tells whether one was lost before it; the count may rise to its trigger
abbrev pub stored : ℕ → Errors → State → State
stored byte e s =
    let kept = record s {
      received = s.received ++ record { byte = byte; errors = with_overrun s.lost e } ∷ [];
      lost = false;
    } in
    raised_if (length kept.received == receive_trigger kept) receive_interrupt (raised (error_interrupts e) kept)

-- the byte is lost
abbrev pub dropped : Errors → State → State
dropped e s = raised (error_interrupts (with_overrun true e)) (record s { lost = true; overrun = true })

abbrev pub with_waited : Option ℕ → State → State
with_waited waited s = record s { waited = waited }

unfoldable pub after_byte : ℕ → Errors → State → State
after_byte byte e s =
    with_waited (Some 0) (if nat_lt (length s.received) (depth_of s) then stored byte e s else dropped e s)

-- ---- the timeout

-- the timeout is told after 32 bits without a byte or a read while bytes wait
abbrev pub after_more_waiting : Option ℕ → State → State
after_more_waiting None s = s
after_more_waiting (Some elapsed) s =
    if nat_lt (elapsed + 4) (32 * bit_time s.divisor) then with_waited (Some (elapsed + 4)) s
    else raised timeout_interrupt (with_waited None s)

unfoldable pub after_waiting : State → State
after_waiting s = after_more_waiting s.waited s

-- ---- the line

abbrev pub with_receiver : Receiver → State → State
with_receiver receiver s = record s { receiver = receiver }

-- a frame begins at a low line, where the UART and its receiver are enabled; half of its start bit is then over
abbrev pub can_receive : State → Bool
can_receive s = s.control.enabled && s.control.receive

abbrev pub first_heard : State → Receiver
first_heard s = receivers.Frame (record { samples = 0; bit = 0; elapsed = bit_time s.divisor / 2 })

abbrev pub after_idle : Bool → State → State
after_idle line s = if not line && can_receive s then with_receiver (first_heard s) s else s

-- after a framing error nothing is received before the line is high
abbrev pub after_lull : Bool → State → State
after_lull line s = if line then with_receiver receivers.Idle s else s

-- a sample of a bit: the stop bit ends the frame, and so does a start bit that is high
abbrev pub is_false_start : Bool → Hearing → Bool
is_false_start line f = line && f.bit == 0

abbrev pub is_stop : Hearing → State → Bool
is_stop f s = nat_le (stop_at s.line) f.bit

abbrev pub with_sample : Bool → ℕ → ℕ → ℕ
with_sample line bit samples = if line then bit_or samples (2 ^ bit) else samples

abbrev pub sampled : Bool → Hearing → ℕ → Hearing
sampled line f elapsed = record {
  samples = with_sample line f.bit f.samples;
  bit = f.bit + 1;
  elapsed = elapsed;
}

abbrev pub after_stop : Bool → Hearing → State → State
after_stop stop f s =
    after_byte (byte_heard s.line f.samples) (errors_of s.line f.samples stop)
    (with_receiver (if stop then receivers.Idle else receivers.Waiting) s)

abbrev pub after_sample : Bool → Hearing → ℕ → State → State
after_sample line f elapsed s =
    if is_stop f s then after_stop line f s else
    if is_false_start line f then with_receiver receivers.Idle s
    else with_receiver (receivers.Frame (sampled line f elapsed)) s

-- a frame that has begun goes on, whether or not the UART is enabled
abbrev pub after_hearing : Bool → Hearing → State → State
after_hearing line f s =
    let elapsed = elapsed_after f.elapsed s.divisor in
    if is_over f.elapsed s.divisor then after_sample line f elapsed s
    else with_receiver (receivers.Frame (record f { elapsed = elapsed })) s

unfoldable pub after_line : Receiver → Bool → State → State
after_line receivers.Idle line s = after_idle line s
after_line receivers.Waiting line s = after_lull line s
after_line (receivers.Frame f) line s = after_hearing line f s

-- a byte comes in this cycle
abbrev pub is_frame_due : Hearing → State → Bool
is_frame_due f s = is_over f.elapsed s.divisor && is_stop f s

unfoldable pub is_byte_due : Receiver → State → Bool
is_byte_due (receivers.Frame f) s = is_frame_due f s
is_byte_due _ s = false

unfoldable pub after_receiving : Bool → State → State
after_receiving line s =
    if is_byte_due s.receiver s then after_line s.receiver line s
    else after_waiting (after_line s.receiver line s)

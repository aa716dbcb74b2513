-- Sending (PrimeCell UART PL011 Technical Reference Manual, DDI 0183, 2.4.3, UART operation: baud rate divisor and data
-- transmission, and 3.3.8, UARTCR). Time is counted in quarters of a cycle, of which a cycle has 4 and a bit 64 times the
-- divisor, which is a whole number of them.
use Rattle.std.specs.Prelude.{ℕ, ◌+◌, ◌-◌, ◌*◌, ◌==◌, Bool, true, ◌&&◌, nat_le, if◌then◌else◌, length, drop, Option, Some, None, slice_get}
use Rattle.rp_uart.specs.declared.control.Divisor.{Divisor}
use Rattle.rp_uart.specs.declared.frame.LineControl.{LineControl}
use Rattle.rp_uart.specs.declared.sender.Sending.{Sending}
use Rattle.rp_uart.specs.declared.sender.Sender.{Sender}
use Rattle.rp_uart.specs.declared.sender.Sender.TheVariants as senders
use Rattle.rp_uart.specs.Frame.{level_at, frame_length}
use Rattle.rp_uart.specs.Interrupts.{transmit_trigger, transmit_interrupt, raised_if}
use Rattle.rp_uart.specs.State.{State}

-- how long a bit lasts
abbrev pub bit_time : Divisor → ℕ
bit_time d = 64 * d.integer + d.fraction

-- with one more cycle a bit is over, and what is above its time counts for the next one
abbrev pub is_over : ℕ → Divisor → Bool
is_over elapsed d = nat_le (bit_time d) (elapsed + 4)

abbrev pub elapsed_after : ℕ → Divisor → ℕ
elapsed_after elapsed d = if is_over elapsed d then elapsed + 4 - bit_time d else elapsed + 4

-- the level of TX: high between frames
abbrev pub level_of : Sender → LineControl → Bool
level_of senders.Idle line = true
level_of (senders.Frame f) line = level_at line f.byte f.bit

abbrev pub with_sender : Sender → State → State
with_sender sender s = record s { sender = sender }

-- the oldest byte, where one waits, goes from the FIFO into a frame, whose start bit has lasted for so long
abbrev pub with_first : Option ℕ → ℕ → State → State
with_first None elapsed s = s
with_first (Some byte) elapsed s =
    let rest = record s {
      sender = senders.Frame (record { byte = byte; bit = 0; elapsed = elapsed });
      to_send = drop 1 s.to_send;
    } in
    raised_if (length rest.to_send == transmit_trigger rest) transmit_interrupt rest

-- a frame begins only where the UART and its transmitter are enabled
abbrev pub can_send : State → Bool
can_send s = s.control.enabled && s.control.transmit

unfoldable pub next_frame : ℕ → State → State
next_frame elapsed s = if can_send s then with_first (slice_get s.to_send 0) elapsed s else s

-- the bit is over: the next one follows, or the frame ends
abbrev pub is_last_bit : Sending → State → Bool
is_last_bit f s = nat_le (frame_length s.line f.byte) (f.bit + 1)

abbrev pub after_bit : Sending → ℕ → State → State
after_bit f elapsed s =
    if is_last_bit f s then next_frame elapsed (with_sender senders.Idle s)
    else with_sender (senders.Frame (record f { bit = f.bit + 1; elapsed = elapsed })) s

-- a frame that has begun goes on, whether or not the UART is enabled
abbrev pub after_frame : Sending → State → State
after_frame f s =
    let elapsed = elapsed_after f.elapsed s.divisor in
    if is_over f.elapsed s.divisor then after_bit f elapsed s
    else with_sender (senders.Frame (record f { elapsed = elapsed })) s

abbrev pub after_sender : Sender → State → State
after_sender senders.Idle s = next_frame 0 s
after_sender (senders.Frame f) s = after_frame f s

unfoldable pub after_sending : State → State
after_sending s = after_sender s.sender s

-- the byte whose frame ends in this cycle, with all its bits, whatever the number of data bits is
abbrev pub frame_byte : Sending → State → Option ℕ
frame_byte f s = if is_over f.elapsed s.divisor && is_last_bit f s then Some f.byte else None

abbrev pub ended_byte : Sender → State → Option ℕ
ended_byte senders.Idle s = None
ended_byte (senders.Frame f) s = frame_byte f s

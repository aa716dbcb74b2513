-- What is received is what was sent, where both sides agree on the frame, and a frame takes the time of its bits (PrimeCell
-- UART PL011 Technical Reference Manual, DDI 0183, 2.4.3, UART operation, and 2.4.5, UART character frame).
use Rattle.std.specs.Prelude.{◌≡◌, ℕ, zero, suc, ◌+◌, ◌*◌, ◌/◌, ◌%◌, ◌^◌, ◌<◌, ◌≤◌, Bool, true, false, nat_lt, nat_le, if◌then◌else◌, [], ◌∷◌, ◌++◌, length, Some, None}
use Rattle.rp_uart.specs.declared.frame.LineControl.{LineControl}
use Rattle.rp_uart.specs.declared.receiver.Receiver.TheVariants as receivers
use Rattle.rp_uart.specs.declared.sender.Sender.{Sender}
use Rattle.rp_uart.specs.declared.sender.Sender.TheVariants as senders
use Rattle.rp_uart.specs.Frame.{width_of, level_at, frame_length, stop_at}
use Rattle.rp_uart.specs.Interrupts.{depth_of}
use Rattle.rp_uart.specs.Receiver.{with_sample, byte_heard, errors_of, can_receive}
use Rattle.rp_uart.specs.Sender.{bit_time, can_send}
use Rattle.rp_uart.specs.State.{State, no_errors}
use Rattle.rp_uart.specs.Step.{is_running, output_of, after_step, sent_byte}

-- ---- one frame

-- the samples of so many bits of the frame of a byte
abbrev pub samples_of : LineControl → ℕ → ℕ → ℕ
samples_of line byte zero = 0
samples_of line byte (suc bit) = with_sample (level_at line byte bit) bit (samples_of line byte bit)

-- the data bits of the byte are heard, and no error
pub record IsHeard (line : LineControl) (byte samples : ℕ) : Type 0 where
  pub heard : byte_heard line samples ≡ byte % 2 ^ width_of line.width
  pub errors : errors_of line samples (level_at line byte (stop_at line)) ≡ no_errors

abbrev pub WhatIsSentIsHeard : Type 0
WhatIsSentIsHeard = (line : LineControl) (byte : ℕ) → IsHeard line byte (samples_of line byte (stop_at line))

-- ---- cycles

-- so many cycles, in which RX has these levels
abbrev pub after_cycles : (ℕ → Bool) → ℕ → State → State
after_cycles levels zero s = s
after_cycles levels (suc n) s = after_step (levels n) (after_cycles levels n s)

-- the frame of a byte has begun, and of its start bit so many quarters of a cycle have passed
abbrev pub begun : ℕ → ℕ → Sender
begun byte elapsed = senders.Frame (record { byte = byte; bit = 0; elapsed = elapsed })

-- how many quarters of a cycle the frame of a byte lasts: each of its bits lasts 64 times the divisor
abbrev pub frame_time : ℕ → State → ℕ
frame_time byte s = frame_length s.line byte * bit_time s.divisor

-- before the n-th cycle from here, TX has the level of the bit whose time it is; and the frame ends with that cycle exactly
-- where its time is over then
pub record IsSent (byte elapsed n : ℕ) (levels : ℕ → Bool) (s : State) : Type 0 where
  pub level : output_of (after_cycles levels n s) ≡ level_at s.line byte ((elapsed + 4 * n) / bit_time s.divisor)
  pub ends :
      sent_byte (after_cycles levels n s)
      ≡ (if nat_le (frame_time byte s) (elapsed + 4 * (n + 1)) then Some byte else None)

-- a frame takes the time of its bits: it ends in the first cycle in which four times the cycles since it began reach that time
abbrev pub AFrameTakesItsTime : Type 0
AFrameTakesItsTime =
    (s : State) (levels : ℕ → Bool) (byte elapsed n : ℕ)
    → is_running s ≡ true
    → s.sender ≡ begun byte elapsed
    → elapsed < bit_time s.divisor
    → elapsed + 4 * n < frame_time byte s
    → IsSent byte elapsed n levels s

-- a UART at rest that hears itself, with room for a byte and with one byte to send
pub record HearsItself (byte : ℕ) (s : State) : Type 0 where
  pub running : is_running s ≡ true
  pub loops : s.control.loopback ≡ true
  pub sends : can_send s ≡ true
  pub receives : can_receive s ≡ true
  pub sender : s.sender ≡ senders.Idle
  pub receiver : s.receiver ≡ receivers.Idle
  pub to_send : s.to_send ≡ byte ∷ []
  pub room : nat_lt (length s.received) (depth_of s) ≡ true
  pub complete : s.lost ≡ false

-- once the time of its frame is over, the byte stands in the receive FIFO, and has no error
abbrev pub TheByteComesBack : Type 0
TheByteComesBack =
    (s : State) (levels : ℕ → Bool) (byte n : ℕ)
    → HearsItself byte s
    → frame_time byte s ≤ 4 * n
    → (after_cycles levels (suc n) s).received
    ≡ s.received ++ record { byte = byte % 2 ^ width_of s.line.width; errors = no_errors } ∷ []

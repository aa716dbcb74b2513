-- Cycles in which a UART is quiet (PrimeCell UART PL011 Technical Reference Manual, DDI 0183, 2.4.3, UART operation: baud rate
-- divisor, data transmission and data reception, and 2.8, interrupts).
use Rattle.std.specs.Prelude.{◌≡◌, ◌<◌, ◌≤◌, ℕ, zero, suc, ◌+◌, ◌*◌, ◌==◌, Bool, true, false, not, ◌&&◌, length, Option, Some, None, ⊤}
use Rattle.rp_uart.specs.declared.control.Divisor.{Divisor}
use Rattle.rp_uart.specs.declared.receiver.Receiver.{Receiver}
use Rattle.rp_uart.specs.declared.receiver.Receiver.TheVariants as receivers
use Rattle.rp_uart.specs.declared.sender.Sender.{Sender}
use Rattle.rp_uart.specs.declared.sender.Sender.TheVariants as senders
use Rattle.rp_uart.specs.Interrupts.{is_line_high}
use Rattle.rp_uart.specs.Receiver.{can_receive}
use Rattle.rp_uart.specs.Sender.{bit_time, can_send}
use Rattle.rp_uart.specs.State.{State}
use Rattle.rp_uart.specs.Step.{is_running, output_of, heard_of, after_step, sent_byte, pacing_of}
use Rattle.rp_uart.specs.Words.{word_of}

-- so many cycles, in which RX stays at a level
abbrev pub after_cycles : Bool → ℕ → State → State
after_cycles line zero s = s
after_cycles line (suc n) s = after_step line (after_cycles line n s)

-- the same, but that time has passed: within a bit, and without a byte
abbrev pub IsLater : State → State → Type 0
IsLater s t = t ≡ record s { sender = t.sender; receiver = t.receiver; waited = t.waited }

-- in so many cycles no frame ends, and TX, the interrupt line, what the DMA engine is told and what each word reads as stay;
-- what has passed is time
pub record IsQuiet (line : Bool) (s : State) (n : ℕ) : Type 0 where
  pub silent : (k : ℕ) → k < n → sent_byte (after_cycles line k s) ≡ None
  pub output : (k : ℕ) → k ≤ n → output_of (after_cycles line k s) ≡ output_of s
  pub lines : (k : ℕ) → k ≤ n → is_line_high (after_cycles line k s) ≡ is_line_high s
  pub pacing : (k : ℕ) → k ≤ n → pacing_of (after_cycles line k s) ≡ pacing_of s
  pub words : (k : ℕ) → k ≤ n → (offset : ℕ) → word_of offset (after_cycles line k s) ≡ word_of offset s
  pub later : (k : ℕ) → k ≤ n → IsLater s (after_cycles line k s)

-- ---- within bits

-- more of each bit, and of the time without a byte, has passed, in quarters of a cycle
abbrev pub sent_longer : ℕ → Sender → Sender
sent_longer time senders.Idle = senders.Idle
sent_longer time (senders.Frame f) = senders.Frame (record f { elapsed = f.elapsed + time })

abbrev pub heard_longer : ℕ → Receiver → Receiver
heard_longer time receivers.Idle = receivers.Idle
heard_longer time (receivers.Frame f) = receivers.Frame (record f { elapsed = f.elapsed + time })
heard_longer time receivers.Waiting = receivers.Waiting

abbrev pub waited_longer : ℕ → Option ℕ → Option ℕ
waited_longer time None = None
waited_longer time (Some elapsed) = Some (elapsed + time)

abbrev pub passed : ℕ → State → State
passed n s =
    record s {
      sender = sent_longer (4 * n) s.sender;
      receiver = heard_longer (4 * n) s.receiver;
      waited = waited_longer (4 * n) s.waited;
    }

-- a frame is about to begin
abbrev pub has_frame : State → Bool
has_frame s = can_send s && not (length s.to_send == 0)

-- in so many cycles no bit of a frame that is sent ends, and none begins
abbrev pub SendsOn : ℕ → Sender → Bool → Divisor → Type 0
SendsOn n senders.Idle begins d = begins ≡ false
SendsOn n (senders.Frame f) begins d = f.elapsed + 4 * n < bit_time d

-- the same of what is received, by the level that is heard
abbrev pub HearsOn : ℕ → Receiver → Bool → Bool → Divisor → Type 0
HearsOn n receivers.Idle level can d = (not level && can) ≡ false
HearsOn n (receivers.Frame f) level can d = f.elapsed + 4 * n < bit_time d
HearsOn n receivers.Waiting level can d = level ≡ false

-- in so many cycles no timeout is told
abbrev pub WaitsOn : ℕ → Option ℕ → Divisor → Type 0
WaitsOn n None d = ⊤
WaitsOn n (Some elapsed) d = elapsed + 4 * n < 32 * bit_time d

pub record GoesOn (line : Bool) (s : State) (n : ℕ) : Type 0 where
  pub running : is_running s ≡ true
  pub sends : SendsOn n s.sender (has_frame s) s.divisor
  pub hears : HearsOn n s.receiver (heard_of line s) (can_receive s) s.divisor
  pub waits : WaitsOn n s.waited s.divisor

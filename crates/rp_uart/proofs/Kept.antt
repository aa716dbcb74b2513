-- What sending leaves as it is, and what receiving leaves as it is.
use Rattle.std.proofs.Common.{◌≡◌, ◌∙◌, ℕ, ◌+◌, ◌*◌, Bool, true, false, cond, List, [], ◌∷◌, length, Option, Some, None, refl, sym, ap, subst}
use Rattle.std.specs.Prelude.{◌==◌, ◌&&◌, not, nat_lt, ◌++◌, drop, slice_get}
use Rattle.rp_base.proofs.Rows.{either-way}
use Rattle.rp_uart.specs.declared.receiver.Errors.{Errors}
use Rattle.rp_uart.specs.declared.receiver.Hearing.{Hearing}
use Rattle.rp_uart.specs.declared.receiver.Receiver.{Receiver}
use Rattle.rp_uart.specs.declared.receiver.Receiver.TheVariants as receivers
use Rattle.rp_uart.specs.declared.sender.Sending.{Sending}
use Rattle.rp_uart.specs.declared.sender.Sender.{Sender}
use Rattle.rp_uart.specs.declared.sender.Sender.TheVariants as senders
use Rattle.rp_uart.specs.Interrupts.{depth_of, receive_trigger, transmit_trigger, receive_interrupt, transmit_interrupt, error_interrupts, raised}
use Rattle.rp_uart.specs.Receiver.{byte_heard, errors_of, with_overrun, stored, with_waited, after_byte, after_more_waiting, after_waiting, with_receiver, can_receive, is_false_start, is_stop, after_sample, after_line, is_byte_due, after_receiving}
use Rattle.rp_uart.specs.Sender.{bit_time, is_over, elapsed_after, is_last_bit, with_sender, with_first, can_send, next_frame, after_bit, after_sender, after_sending}
use Rattle.rp_uart.specs.State.{State}

pub cond-same : {A : Type 0} (c : Bool) (x : A) → cond c x x ≡ x
cond-same true x = refl
cond-same false x = refl

pub next-none : (elapsed : ℕ) (s : State) → s.to_send ≡ [] → next_frame elapsed s ≡ s
unfolding next_frame
next-none elapsed s e =
    ap (λ (xs : List ℕ). cond (can_send s) (with_first (slice_get xs 0) elapsed s) s) e ∙ cond-same (can_send s) s

-- ---- sending

abbrev pub Sends : State → State → Type 0
Sends s t = t ≡ record s { sender = t.sender; to_send = t.to_send; raw = t.raw }

-- a frame begins, whether or not that is told
abbrev pub framed : ℕ → ℕ → State → State
framed byte elapsed s = record s {
  sender = senders.Frame (record { byte = byte; bit = 0; elapsed = elapsed });
  to_send = drop 1 s.to_send;
}

pub first-by : (P : State → Type 0) (byte elapsed : ℕ) (s : State) → P (raised transmit_interrupt (framed byte elapsed s)) → P (framed byte elapsed s)
    → P (with_first (Some byte) elapsed s)
first-by P byte elapsed s p q = either-way P (length (framed byte elapsed s).to_send == transmit_trigger (framed byte elapsed s)) p q

first-sends : (first : Option ℕ) (elapsed : ℕ) (s : State) → Sends s (with_first first elapsed s)
first-sends None elapsed s = refl
first-sends (Some byte) elapsed s = first-by (Sends s) byte elapsed s refl refl

next-sends : (elapsed : ℕ) (s : State) → Sends s (next_frame elapsed s)
unfolding next_frame
next-sends elapsed s = either-way (Sends s) (can_send s) (first-sends (slice_get s.to_send 0) elapsed s) refl

bit-sends : (g : Sending) (elapsed : ℕ) (s : State) → Sends s (after_bit g elapsed s)
bit-sends g elapsed s = either-way (Sends s) (is_last_bit g s) (next-sends elapsed (with_sender senders.Idle s)) refl

sender-sends : (sender : Sender) (s : State) → Sends s (after_sender sender s)
sender-sends senders.Idle s = next-sends 0 s
sender-sends (senders.Frame g) s = either-way (Sends s) (is_over g.elapsed s.divisor) (bit-sends g (elapsed_after g.elapsed s.divisor) s) refl

pub sends-alone : (s : State) → Sends s (after_sending s)
unfolding after_sending
sends-alone s = sender-sends s.sender s

pub after_sending-divisor : (s : State) → (after_sending s).divisor ≡ s.divisor
after_sending-divisor s = ap (λ (t : State). t.divisor) (sends-alone s)

pub ruleset kept = (after_sending-divisor)

-- ---- receiving

abbrev pub Waits : State → State → Type 0
Waits s t = t ≡ record s { waited = t.waited; raw = t.raw }

more-waits : (waited : Option ℕ) (s : State) → Waits s (after_more_waiting waited s)
more-waits None s = refl
more-waits (Some elapsed) s = either-way (Waits s) (nat_lt (elapsed + 4) (32 * bit_time s.divisor)) refl refl

pub waits-alone : (s : State) → Waits s (after_waiting s)
unfolding after_waiting
waits-alone s = more-waits s.waited s

abbrev pub Hears : State → State → Type 0
Hears s t =
    t ≡ record s { receiver = t.receiver; received = t.received; waited = t.waited; lost = t.lost; overrun = t.overrun; raw = t.raw }

-- a byte is stored, before the interrupt of the count
abbrev pub entered : ℕ → Errors → State → State
entered byte e s = raised (error_interrupts e) (record s {
  received = s.received ++ record { byte = byte; errors = with_overrun s.lost e } ∷ [];
  lost = false;
})

pub stored-by : (P : State → Type 0) (byte : ℕ) (e : Errors) (s : State) → P (raised receive_interrupt (entered byte e s)) → P (entered byte e s)
    → P (stored byte e s)
stored-by P byte e s p q = either-way P (length (entered byte e s).received == receive_trigger (entered byte e s)) p q

byte-hears : (byte : ℕ) (e : Errors) (s : State) → Hears s (after_byte byte e s)
unfolding after_byte
byte-hears byte e s =
    ap (with_waited (Some 0)) (either-way (Hears s) (nat_lt (length s.received) (depth_of s)) (stored-by (Hears s) byte e s refl refl) refl)

sample-hears : (line : Bool) (g : Hearing) (elapsed : ℕ) (s : State) → Hears s (after_sample line g elapsed s)
sample-hears line g elapsed s =
    either-way (Hears s) (is_stop g s)
    (byte-hears (byte_heard s.line g.samples) (errors_of s.line g.samples line) (with_receiver (cond line receivers.Idle receivers.Waiting) s))
    (either-way (Hears s) (is_false_start line g) refl refl)

line-hears : (receiver : Receiver) (line : Bool) (s : State) → Hears s (after_line receiver line s)
unfolding after_line
line-hears receivers.Idle line s = either-way (Hears s) (not line && can_receive s) refl refl
line-hears receivers.Waiting line s = either-way (Hears s) line refl refl
line-hears (receivers.Frame g) line s =
    either-way (Hears s) (is_over g.elapsed s.divisor) (sample-hears line g (elapsed_after g.elapsed s.divisor) s) refl

pub hears-alone : (line : Bool) (s : State) → Hears s (after_receiving line s)
unfolding after_receiving
hears-alone line s =
    let after = after_line s.receiver line s in
    let u = after_waiting after in
    let here = line-hears s.receiver line s in
    either-way (Hears s) (is_byte_due s.receiver s) here
    (subst (Hears s) (sym (waits-alone after)) (ap (λ (t : State). record t { waited = u.waited; raw = u.raw }) here))

-- Cycles within bits.
use Rattle.std.proofs.Common.{◌≡◌, ◌∙◌, ℕ, zero, suc, ◌+◌, ◌-◌, ◌*◌, ◌<◌, ◌≤◌, Bool, true, false, not, ◌&&◌, nat_lt, cond, Option, Some, None, refl, sym, ap, subst, arith}
use Rattle.std.specs.Prelude.{◌==◌, length, slice_get}
use Rattle.std.proofs.lemmas.Bool.Decides.{nat_tests}
use Rattle.std.proofs.lemmas.List.{nil_from_length}
use Rattle.rp_uart.specs.declared.control.Divisor.{Divisor}
use Rattle.rp_uart.specs.declared.frame.LineControl.{LineControl}
use Rattle.rp_uart.specs.declared.receiver.Hearing.{Hearing}
use Rattle.rp_uart.specs.declared.receiver.Receiver.{Receiver}
use Rattle.rp_uart.specs.declared.receiver.Receiver.TheVariants as receivers
use Rattle.rp_uart.specs.declared.sender.Sending.{Sending}
use Rattle.rp_uart.specs.declared.sender.Sender.{Sender}
use Rattle.rp_uart.specs.declared.sender.Sender.TheVariants as senders
use Rattle.rp_uart.specs.Interrupts.{is_line_high}
use Rattle.rp_uart.specs.Quiet.{after_cycles, IsLater, IsQuiet, sent_longer, heard_longer, waited_longer, passed, has_frame, SendsOn, HearsOn, WaitsOn, GoesOn}
use Rattle.rp_uart.specs.Receiver.{can_receive, first_heard, is_stop, after_sample, after_more_waiting, after_waiting, after_line, is_byte_due, after_receiving, with_receiver, with_waited}
use Rattle.rp_uart.specs.Interrupts.{raised, timeout_interrupt}
use Rattle.rp_uart.specs.Sender.{bit_time, is_over, level_of, can_send, is_last_bit, with_sender, with_first, next_frame, after_bit, after_sender, after_sending, ended_byte}
use Rattle.rp_uart.specs.State.{State}
use Rattle.rp_uart.specs.Step.{is_running, output_of, heard_of, after_step, sent_byte, pacing_of}
use Rattle.rp_uart.specs.Words.{word_of}
use Rattle.rp_uart.proofs.Kept.{cond-same, next-none}

not-over : (elapsed : ℕ) (d : Divisor) → elapsed + 4 < bit_time d → is_over elapsed d ≡ false
not-over elapsed d lt = grind (arith, nat_tests)

is-below : (a b : ℕ) → a < b → nat_lt a b ≡ true
is-below a b lt = grind (arith, nat_tests)

-- ---- one cycle

is-none : (n : ℕ) → (not (n == 0)) ≡ false → n ≡ 0
is-none n h = grind (arith, nat_tests)

no-frame : (can : Bool) (s : State) → can_send s ≡ can → (can && not (length s.to_send == 0)) ≡ false → next_frame 0 s ≡ s
unfolding next_frame
no-frame true s e h = next-none 0 s (nil_from_length s.to_send (is-none (length s.to_send) h))
no-frame false s e h = ap (λ (b : Bool). cond b (with_first (slice_get s.to_send 0) 0 s) s) e

-- what goes on for n cycles has gone on for k of them, and goes on in the next one

level-stays : (time : ℕ) (x : Sender) (line : LineControl) → level_of (sent_longer time x) line ≡ level_of x line
level-stays time senders.Idle line = refl
level-stays time (senders.Frame f) line = refl

sends : (n k : ℕ) (x : Sender) (s : State) → k < n → SendsOn n x (has_frame s) s.divisor →
    after_sender (sent_longer (4 * k) x) (record s { sender = sent_longer (4 * k) x })
    ≡ record s { sender = sent_longer (4 * suc k) x }
sends n k senders.Idle s lt h = no-frame (can_send s) (record s { sender = senders.Idle }) refl h
sends n k (senders.Frame f) s lt h =
    let time = f.elapsed + 4 * k in
    let now : Sending = record f { elapsed = time } in
    let t : State = record s { sender = senders.Frame now } in
    let next = λ (b : Bool). cond b (time + 4 - bit_time s.divisor) (time + 4) in
    let more : time + 4 ≡ f.elapsed + 4 * suc k = omega arith in
    ap (λ (b : Bool). cond b (after_bit now (next b) t) (with_sender (senders.Frame (record f { elapsed = next b })) s))
    (not-over time s.divisor (omega (arith, h)))
    ∙ ap (λ (u : ℕ). with_sender (senders.Frame (record f { elapsed = u })) s) more

hears : (n k : ℕ) (x : Receiver) (level : Bool) (s t : State) → k < n → HearsOn n x level (can_receive s) s.divisor →
    t ≡ record s { receiver = heard_longer (4 * k) x } →
    cond (is_byte_due t.receiver t) (after_line t.receiver level t) (after_waiting (after_line t.receiver level t))
    ≡ after_waiting (record s { receiver = heard_longer (4 * suc k) x })
unfolding after_line is_byte_due
hears n k receivers.Idle level s t lt h e =
    rw e (ap (λ (b : Bool). after_waiting (cond b (with_receiver (first_heard s) s) (with_receiver receivers.Idle s))) h)
hears n k receivers.Waiting level s t lt h e =
    rw e (ap (λ (b : Bool). after_waiting (cond b (with_receiver receivers.Idle s) (with_receiver receivers.Waiting s))) h)
hears n k (receivers.Frame g) level s t lt h e =
    let time = g.elapsed + 4 * k in
    let now : Hearing = record g { elapsed = time } in
    let u : State = record s { receiver = receivers.Frame now } in
    let next = λ (b : Bool). cond b (time + 4 - bit_time s.divisor) (time + 4) in
    let on = λ (v : ℕ). with_receiver (receivers.Frame (record g { elapsed = v })) s in
    let after = λ (b : Bool). cond b (after_sample level now (next b) u) (on (next b)) in
    let more : time + 4 ≡ g.elapsed + 4 * suc k = omega arith in
    rw e
    (ap (λ (b : Bool). cond (b && is_stop now u) (after b) (after_waiting (after b))) (not-over time s.divisor (omega (arith, h)))
    ∙ ap (λ (v : ℕ). after_waiting (on v)) more)

waits : (n k : ℕ) (x : Option ℕ) (s : State) → k < n → WaitsOn n x s.divisor →
    after_more_waiting (waited_longer (4 * k) x) (with_waited (waited_longer (4 * k) x) s)
    ≡ with_waited (waited_longer (4 * suc k) x) s
waits n k None s lt h = refl
waits n k (Some elapsed) s lt h =
    let time = elapsed + 4 * k in
    let more : time + 4 ≡ elapsed + 4 * suc k = omega arith in
    ap (λ (b : Bool). cond b (with_waited (Some (time + 4)) s) (raised timeout_interrupt (with_waited None s)))
    (is-below (time + 4) (32 * bit_time s.divisor) (omega (arith, h)))
    ∙ ap (λ (v : ℕ). with_waited (Some v) s) more

one : (line : Bool) (s : State) (n k : ℕ) → GoesOn line s n → k < n → after_step line (passed k s) ≡ passed (suc k) s
unfolding after_sending after_receiving after_waiting
one line s n k g lt =
    let t = passed k s in
    let sent : State = record t { sender = sent_longer (4 * suc k) s.sender } in
    let heard : State = record sent { receiver = heard_longer (4 * suc k) s.receiver } in
    ap (λ (b : Bool). cond b (after_receiving (heard_of line t) (after_sending t)) t) g.running
    ∙ ap (λ (b : Bool). after_receiving (cond s.control.loopback b line) (after_sending t)) (level-stays (4 * k) s.sender s.line)
    ∙ ap (after_receiving (heard_of line s)) (sends n k s.sender t lt g.sends)
    ∙ hears n k s.receiver (heard_of line s) sent sent lt g.hears refl
    ∙ waits n k s.waited heard lt g.waits

-- ---- many cycles

parts : (s : State) (a b : Sender) (c d : Receiver) (e f : Option ℕ) → a ≡ b → c ≡ d → e ≡ f →
    ◌≡◌ {A = State} (record s { sender = a; receiver = c; waited = e }) (record s { sender = b; receiver = d; waited = f })
parts s a b c d e f x y z = rw (x, y, z) refl

sent-none : (x : Sender) → x ≡ sent_longer 0 x
sent-none senders.Idle = refl
sent-none (senders.Frame f) = let same : f.elapsed ≡ f.elapsed + 0 = omega arith in ap (λ (t : ℕ). senders.Frame (record f { elapsed = t })) same

heard-none : (x : Receiver) → x ≡ heard_longer 0 x
heard-none receivers.Idle = refl
heard-none (receivers.Frame f) = let same : f.elapsed ≡ f.elapsed + 0 = omega arith in ap (λ (t : ℕ). receivers.Frame (record f { elapsed = t })) same
heard-none receivers.Waiting = refl

waited-none : (x : Option ℕ) → x ≡ waited_longer 0 x
waited-none None = refl
waited-none (Some elapsed) = let same : elapsed ≡ elapsed + 0 = omega arith in ap (λ (t : ℕ). Some t) same

pub passes : (line : Bool) (s : State) (n : ℕ) → GoesOn line s n → (k : ℕ) → k ≤ n → after_cycles line k s ≡ passed k s
passes line s n g zero le = parts s _ _ _ _ _ _ (sent-none s.sender) (heard-none s.receiver) (waited-none s.waited)
passes line s n g (suc k) le =
    ap (after_step line) (passes line s n g k (omega arith)) ∙ one line s n k g (omega arith)

-- ---- what is shown

no-end : (n k : ℕ) (x : Sender) (b : Bool) (s : State) → k < n → SendsOn n x b s.divisor →
    ended_byte (sent_longer (4 * k) x) s ≡ None
no-end n k senders.Idle b s lt h = refl
no-end n k (senders.Frame f) b s lt h =
    let now : Sending = record f { elapsed = f.elapsed + 4 * k } in
    ap (λ (o : Bool). cond (o && is_last_bit now s) (Some f.byte) None) (not-over now.elapsed s.divisor (omega (arith, h)))

word-stays : (time offset : ℕ) (x : Sender) (receiver : Receiver) (waited : Option ℕ) (s : State) →
    word_of offset (record s { sender = sent_longer time x; receiver = receiver; waited = waited }) ≡ word_of offset (record s { sender = x })
word-stays time offset senders.Idle receiver waited s = refl
word-stays time offset (senders.Frame f) receiver waited s = refl

pub goes-quiet : (line : Bool) (s : State) (n : ℕ) → GoesOn line s n → IsQuiet line s n
goes-quiet line s n g = record {
  silent = λ k lt.
      ap sent_byte (passes line s n g k (omega arith))
      ∙ (ap (λ (x : Option ℕ). cond (is_running s) x None)
      (no-end n k s.sender (has_frame s) (passed k s) lt g.sends)
      ∙ cond-same (is_running s) None);
  output = λ k le. ap output_of (passes line s n g k le) ∙ level-stays (4 * k) s.sender s.line;
  lines = λ k le. ap is_line_high (passes line s n g k le);
  pacing = λ k le. ap pacing_of (passes line s n g k le);
  words = λ k le offset. ap (word_of offset) (passes line s n g k le) ∙ word-stays (4 * k) offset s.sender (heard_longer (4 * k) s.receiver) (waited_longer (4 * k) s.waited) s;
  later = λ k le. subst (IsLater s) (sym (passes line s n g k le)) refl;
}

stays-quiet : (line : Bool) (s : State) (n : ℕ) → ((k : ℕ) → k ≤ n → after_cycles line k s ≡ s) → (0 < n → sent_byte s ≡ None) →
    IsQuiet line s n
stays-quiet line s n at none = record {
  silent = λ k lt. ap sent_byte (at k (omega arith)) ∙ none (omega arith);
  output = λ k le. ap output_of (at k le);
  lines = λ k le. ap is_line_high (at k le);
  pacing = λ k le. ap pacing_of (at k le);
  words = λ k le offset. ap (word_of offset) (at k le);
  later = λ k le. subst (IsLater s) (sym (at k le)) refl;
}

pub quiet-none : (line : Bool) (s : State) → IsQuiet line s 0
quiet-none line s = stays-quiet line s 0 (λ k le. let e : k ≡ 0 = omega arith in rw e refl) (λ lt. absurd (omega arith))

pub left-quiet : (line : Bool) (s : State) (n : ℕ) → (0 < n → GoesOn line s n) → IsQuiet line s n
left-quiet line s zero h = quiet-none line s
left-quiet line s (suc n) h = goes-quiet line s (suc n) (h (omega arith))

-- ---- a UART without a divisor

pub stands : (line : Bool) (s : State) (n : ℕ) → is_running s ≡ false → after_cycles line n s ≡ s
stands line s zero e = refl
stands line s (suc n) e =
    ap (after_step line) (stands line s n e)
    ∙ ap (λ (b : Bool). cond b (after_receiving (heard_of line s) (after_sending s)) s) e

pub stands-quiet : (line : Bool) (s : State) (n : ℕ) → is_running s ≡ false → IsQuiet line s n
stands-quiet line s n e =
    stays-quiet line s n (λ k le. stands line s k e) (λ lt. ap (λ (b : Bool). cond b (ended_byte s.sender s) None) e)

pub passes-left : (line : Bool) (s : State) (n left : ℕ) → n ≤ left → 0 < n → (0 < left → GoesOn line s left) →
    after_cycles line n s ≡ passed n s
passes-left line s n left le some g = passes line s left (g (omega arith)) n le

pub ruleset stopped = (stands-quiet)

pub ruleset along = (passes-left, stands)

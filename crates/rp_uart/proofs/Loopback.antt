-- A UART at rest that hears itself hears the byte that it is given.
use Rattle.std.proofs.Common.{◌≡◌, ◌∙◌, ℕ, zero, suc, ◌+◌, ◌-◌, ◌*◌, ◌/◌, ◌%◌, ◌^◌, ◌<◌, ◌≤◌, Bool, true, false, cond, List, [], ◌∷◌, ◌++◌, Some, refl, sym, ap, subst, arith, ne_eqb}
use Rattle.std.specs.Prelude.{◌&&◌, ◌==◌, nat_lt, nat_le, length, drop, slice_get}
use Rattle.std.proofs.Math.Nat.{mul-le-mul_right}
use Rattle.std.proofs.lemmas.Bool.{leb-true, leb-false}
use Rattle.rp_base.specs.Word.{bit_number}
use Rattle.rp_uart.specs.declared.control.Divisor.{Divisor}
use Rattle.rp_uart.specs.declared.frame.LineControl.{LineControl}
use Rattle.rp_uart.specs.declared.receiver.Errors.{Errors}
use Rattle.rp_uart.specs.declared.receiver.Hearing.{Hearing}
use Rattle.rp_uart.specs.declared.receiver.Received.{Received}
use Rattle.rp_uart.specs.declared.receiver.Receiver.TheVariants as receivers
use Rattle.rp_uart.specs.declared.sender.Sender.{Sender}
use Rattle.rp_uart.specs.declared.sender.Sender.TheVariants as senders
use Rattle.rp_uart.specs.Frame.{width_of, level_at, frame_length, stop_at}
use Rattle.rp_uart.specs.Interrupts.{depth_of}
use Rattle.rp_uart.specs.Laws.{after_cycles, samples_of, begun, frame_time, HearsItself, TheByteComesBack}
use Rattle.rp_uart.specs.Receiver.{byte_heard, errors_of, with_overrun, stored, with_waited, after_byte, after_waiting, with_receiver, can_receive, first_heard, is_false_start, is_stop, with_sample, sampled, after_stop, after_line, is_byte_due, after_receiving}
use Rattle.rp_uart.specs.Sender.{bit_time, is_over, elapsed_after, level_of, with_sender, with_first, can_send, next_frame, is_last_bit, after_sender, after_sending}
use Rattle.rp_uart.specs.State.{State, no_errors}
use Rattle.rp_uart.specs.Step.{is_running, output_of, heard_of, after_step}
use Rattle.rp_uart.proofs.Frames.{frame_length-sum, level_at-start}
use Rattle.rp_uart.proofs.Heard.{heard_law, level_at-stop}
use Rattle.rp_base.proofs.Rows.{either-way}
use Rattle.rp_uart.proofs.Kept.{next-none, sends-alone, waits-alone, first-by, stored-by}
use Rattle.rp_uart.proofs.Timing.{bit_time-large, one_more, over-rest, times_of, fewer, Settings, Same, same-sending, same-step, running-as, runs, to_send-received, sender-step, On, goes-on, on-next, level_by}

-- ---- what receiving comes to

-- a high line at rest, and a low one
idle-high : (x : State) → x.receiver ≡ receivers.Idle → after_receiving true x ≡ after_waiting x
unfolding after_receiving after_line is_byte_due
idle-high x e = rw e refl

idle-low : (x : State) → x.receiver ≡ receivers.Idle → can_receive x ≡ true →
    after_receiving false x ≡ after_waiting (with_receiver (first_heard x) x)
unfolding after_receiving after_line is_byte_due
idle-low x e c = rw (e, c) refl

-- a frame that goes on
hears-on : (h : Bool) (f : Hearing) (x : State) → x.receiver ≡ receivers.Frame f →
    is_over f.elapsed x.divisor ≡ false →
    after_receiving h x ≡ after_waiting (with_receiver (receivers.Frame (record f { elapsed = f.elapsed + 4 })) x)
unfolding after_receiving after_line is_byte_due
hears-on h f x e o = rw (e, o) refl

-- a sample that is not the stop bit's, and the stop bit's
hears-sample : (h : Bool) (f : Hearing) (x : State) → x.receiver ≡ receivers.Frame f →
    is_over f.elapsed x.divisor ≡ true → is_stop f x ≡ false → is_false_start h f ≡ false →
    after_receiving h x
    ≡ after_waiting (with_receiver (receivers.Frame (sampled h f (f.elapsed + 4 - bit_time x.divisor))) x)
unfolding after_receiving after_line is_byte_due
hears-sample h f x e o p q = rw (e, o, p, q) refl

hears-stop : (h : Bool) (f : Hearing) (x : State) → x.receiver ≡ receivers.Frame f →
    is_over f.elapsed x.divisor ≡ true → is_stop f x ≡ true → after_receiving h x ≡ after_stop h f x
unfolding after_receiving after_line is_byte_due
hears-stop h f x e o p = rw (e, o, p) refl

-- ---- a byte that is stored

stored-received : (byte : ℕ) (e : Errors) (y : State) →
    (stored byte e y).received ≡ y.received ++ record { byte = byte; errors = with_overrun y.lost e } ∷ []
stored-received byte e y =
    stored-by (λ (t : State). t.received ≡ y.received ++ record { byte = byte; errors = with_overrun y.lost e } ∷ []) byte e y refl refl

stored-receiver : (byte : ℕ) (e : Errors) (y : State) → (stored byte e y).receiver ≡ y.receiver
stored-receiver byte e y = stored-by (λ (t : State). t.receiver ≡ y.receiver) byte e y refl refl

room-stores : (byte : ℕ) (e : Errors) (y : State) → nat_lt (length y.received) (depth_of y) ≡ true →
    after_byte byte e y ≡ with_waited (Some 0) (stored byte e y)
unfolding after_byte
room-stores byte e y r = rw r refl

-- ---- where sender and receiver are

-- the receiver hears the frame of which the sender has sent so much
record Hears (byte time : ℕ) (s t : State) : Type 0 where
  on : On byte time s t
  bit : ℕ
  elapsed : ℕ
  is : t.receiver ≡ receivers.Frame (record { samples = samples_of s.line byte bit; bit = bit; elapsed = elapsed })
  passed : bit * bit_time s.divisor + elapsed + 4 ≡ time + bit_time s.divisor / 2
  within : elapsed < bit_time s.divisor
  early : bit ≤ stop_at s.line
  received : t.received ≡ s.received
  to_send : t.to_send ≡ []
  lost : t.lost ≡ false

-- the sender is in a stop bit, or sends nothing
abbrev IsHigh : LineControl → Sender → Type 0
IsHigh line senders.Idle = Unit {0}
IsHigh line (senders.Frame f) = stop_at line ≤ f.bit

record Rests (byte : ℕ) (s t : State) : Type 0 where
  same : Same s t
  receiver : t.receiver ≡ receivers.Idle
  received : t.received ≡ s.received ++ record { byte = byte % 2 ^ width_of s.line.width; errors = no_errors } ∷ []
  to_send : t.to_send ≡ []
  high : IsHigh s.line t.sender

data Stage (byte time : ℕ) (s t : State) : Type 0 where
  hears : Hears byte time s t → Stage byte time s t
  rests : Rests byte s t → Stage byte time s t

loops : (line : Bool) (t : State) → t.control.loopback ≡ true → heard_of line t ≡ output_of t
loops line t e = rw e refl

loopback-as : (s t : State) → Same s t → s.control.loopback ≡ true → t.control.loopback ≡ true
loopback-as s t a e = ap (λ (p : Settings). p.1.1.loopback) a ∙ e

-- ---- at rest

record Silent (line : LineControl) (t : State) : Type 0 where
  to_send : t.to_send ≡ []
  high : IsHigh line t.sender

silent-sender : (line : LineControl) (sender : Sender) (t : State) → t.sender ≡ sender → t.to_send ≡ [] → IsHigh line sender →
    Silent line (after_sender sender t)
silent-sender line senders.Idle t is e h =
    subst (Silent line) (sym (next-none 0 t e)) (record { to_send = e; high = rw is h })
silent-sender line (senders.Frame f) t is e h =
    let idle = with_sender senders.Idle t in
    either-way (Silent line) (is_over f.elapsed t.divisor)
    (either-way (Silent line) (is_last_bit f t)
    (subst (Silent line) (sym (next-none (elapsed_after f.elapsed t.divisor) idle e)) (record { to_send = e; high = record {} }))
    (record { to_send = e; high = omega arith }))
    (record { to_send = e; high = h })

silent-sending : (line : LineControl) (t : State) → Silent line t → Silent line (after_sending t)
unfolding after_sending
silent-sending line t a = silent-sender line t.sender t refl a.to_send a.high

high-level : (line : LineControl) (sender : Sender) → IsHigh line sender → level_of sender line ≡ true
high-level line senders.Idle h = refl
high-level line (senders.Frame f) h = level_at-stop line f.byte f.bit h

output-high : (s t : State) → Same s t → IsHigh s.line t.sender → output_of t ≡ true
output-high s t a h = ap (λ (p : Settings). level_of t.sender p.0) a ∙ high-level s.line t.sender h

-- a cycle in which the receiver is told this level, and leaves this
step-to : (line h : Bool) (t y : State) → is_running t ≡ true → heard_of line t ≡ h → after_receiving h (after_sending t) ≡ y →
    after_step line t ≡ y
step-to line h t y e p q = runs line t e ∙ (ap (λ (b : Bool). after_receiving b (after_sending t)) p ∙ q)

to_send-step : (line : Bool) (t : State) → is_running t ≡ true → (after_step line t).to_send ≡ (after_sending t).to_send
to_send-step line t e =
    ap (λ (x : State). x.to_send) (runs line t e) ∙ to_send-received (heard_of line t) (after_sending t)

rests-next : (line : Bool) (byte : ℕ) (s t : State) → is_running s ≡ true → s.control.loopback ≡ true → Rests byte s t →
    Rests byte s (after_step line t)
rests-next line byte s t running loopback a =
    let on : is_running t ≡ true = running-as s t a.same running in
    let x = after_sending t in
    let u = after_step line t in
    let silent = silent-sending s.line t (record { to_send = a.to_send; high = a.high }) in
    let told_high : heard_of line t ≡ true =
    loops line t (loopback-as s t a.same loopback) ∙ output-high s t a.same a.high in
    let is : u ≡ after_waiting x = step-to line true t (after_waiting x) on told_high (idle-high x (ap (λ (z : State). z.receiver) (sends-alone t) ∙ a.receiver)) in
    record {
      same = same-step line t on ∙ a.same;
      receiver = ap (λ (y : State). y.receiver) is ∙ (ap (λ (z : State). z.receiver) (waits-alone x) ∙ (ap (λ (z : State). z.receiver) (sends-alone t) ∙ a.receiver));
      received = ap (λ (y : State). y.received) is ∙ (ap (λ (z : State). z.received) (waits-alone x) ∙ (ap (λ (z : State). z.received) (sends-alone t) ∙ a.received));
      to_send = to_send-step line t on ∙ silent.to_send;
      high = rw (sender-step line t on) silent.high;
    }

-- ---- the frame

still_early : (b d r t n : ℕ) → 64 ≤ d → b * d + r + 4 ≡ t + d / 2 → r < d → b < n → t + 4 < n * d
still_early b d r t n large e w h =
    let more : b + 1 ≤ n = omega arith in
    let enough : (b + 1) * d ≤ n * d = mul-le-mul_right d more in
    omega (arith, one_more b d)

same_bit : (b d r t : ℕ) → 64 ≤ d → b * d + r + 4 ≡ t + d / 2 → d ≤ r + 4 → r < d → t / d ≡ b
same_bit b d r t large e o w = times_of b d (r + 4 - d / 2) t (omega arith) (omega arith)

next-passed : (b d r t : ℕ) → b * d + r + 4 ≡ t + d / 2 → d ≤ r + 4 → (b + 1) * d + (r + 4 - d) + 4 ≡ t + 4 + d / 2
next-passed b d r t e o = omega (arith, one_more b d)

no_false_start : (h : Bool) (bit : ℕ) → (bit ≡ 0 → h ≡ false) → (h && bit == 0) ≡ false
no_false_start true zero k = k refl
no_false_start true (suc bit) k = ne_eqb (suc bit) 0 (λ e. omega arith)
no_false_start false bit k = refl

level-bit : (s : State) (byte : ℕ) (h : Bool) (bit : ℕ) → h ≡ level_at s.line byte bit →
    with_sample h bit (samples_of s.line byte bit) ≡ samples_of s.line byte (suc bit)
level-bit s byte h bit e = ap (λ (b : Bool). with_sample b bit (samples_of s.line byte bit)) e

-- the byte that is stored
abbrev entry : LineControl → ℕ → Bool → Bool → Received
entry line samples stop lost =
    record { byte = byte_heard line samples; errors = with_overrun lost (errors_of line samples stop) }

entry-is : (line : LineControl) (byte bit : ℕ) (l : LineControl) (h lost : Bool) → l ≡ line → bit ≡ stop_at line →
    h ≡ level_at line byte bit → lost ≡ false →
    entry l (samples_of line byte bit) h lost ≡ record { byte = byte % 2 ^ width_of line.width; errors = no_errors }
entry-is line byte bit l h lost e p q r =
    let samples = samples_of line byte (stop_at line) in
    let stop = level_at line byte (stop_at line) in
    let heard = heard_law line byte in
    ap (λ (m : LineControl). entry m (samples_of line byte bit) h lost) e
    ∙ (ap (λ (k : ℕ). entry line (samples_of line byte k) h lost) p
    ∙ (ap (λ (b : Bool). entry line samples b lost) (q ∙ ap (level_at line byte) p)
    ∙ (ap (λ (b : Bool). entry line samples stop b) r
    ∙ (ap (λ (b : ℕ). record { byte = b; errors = with_overrun false (errors_of line samples stop) }) heard.heard
    ∙ ap (λ (e : Errors). record { byte = byte % 2 ^ width_of line.width; errors = with_overrun false e }) heard.errors))))

later_bit : (b c d r q t : ℕ) → b * d + r + 4 ≡ t + d / 2 → d ≤ r + 4 → c * d + q ≡ t + 4 → q < d → b ≤ c
later_bit b c d r q t e o f w =
    let less : b < c + 1 = fewer b (c + 1) d (t + 4) (omega arith) (omega (arith, one_more c d)) in
    omega arith

module _ (line : Bool) (byte time : ℕ) (s t : State) (running : is_running s ≡ true) (loopback : s.control.loopback ≡ true)
    (room : nat_lt (length s.received) (depth_of s) ≡ true) (a : Hears byte time s t) where
  abbrev d : ℕ
  d = bit_time s.divisor

  large : 64 ≤ d
  large = bit_time-large s.divisor running

  abbrev f : Hearing
  f = record { samples = samples_of s.line byte a.bit; bit = a.bit; elapsed = a.elapsed }

  abbrev x : State
  x = after_sending t

  abbrev u : State
  u = after_step line t

  on_t : is_running t ≡ true
  on_t = running-as s t a.on.same running

  soon : time + 4 < frame_time byte s
  soon =
      still_early a.bit d a.elapsed time (frame_length s.line byte) large a.passed a.within
      (omega (arith, a.early, frame_length-sum s.line byte))

  on_u : On byte (time + 4) s u
  on_u = on-next line s t byte time running a.on soon

  to_send-u : u.to_send ≡ []
  to_send-u = to_send-step line t on_t ∙ ((goes-on s t byte time running a.on soon).to_send ∙ a.to_send)

  receiver-x : x.receiver ≡ receivers.Frame f
  receiver-x = ap (λ (z : State). z.receiver) (sends-alone t) ∙ a.is

  received-x : x.received ≡ s.received
  received-x = ap (λ (z : State). z.received) (sends-alone t) ∙ a.received

  lost-x : x.lost ≡ false
  lost-x = ap (λ (z : State). z.lost) (sends-alone t) ∙ a.lost

  divisor-x : x.divisor ≡ s.divisor
  divisor-x = ap (λ (p : Settings). p.1.0) (same-sending t ∙ a.on.same)

  line-x : x.line ≡ s.line
  line-x = ap (λ (p : Settings). p.0) (same-sending t ∙ a.on.same)

  abbrev heard : Bool
  heard = heard_of line t

  heard-is : d ≤ a.elapsed + 4 → heard ≡ level_at s.line byte a.bit
  heard-is o =
      loops line t (loopback-as s t a.on.same loopback)
      ∙ (level_by s t byte time a.on
      ∙ ap (level_at s.line byte) (same_bit a.bit d a.elapsed time large a.passed o a.within))

  longer : is_over a.elapsed s.divisor ≡ false → Hears byte (time + 4) s u
  longer o =
      let y = with_receiver (receivers.Frame (record f { elapsed = a.elapsed + 4 })) x in
      let is : u ≡ after_waiting y =
      step-to line heard t (after_waiting y) on_t refl (hears-on heard f x receiver-x (ap (is_over a.elapsed) divisor-x ∙ o)) in
      record {
        on = on_u;
        bit = a.bit;
        elapsed = a.elapsed + 4;
        is = ap (λ (z : State). z.receiver) is ∙ ap (λ (z : State). z.receiver) (waits-alone y);
        passed = omega (arith, a.passed);
        within = leb-false d (a.elapsed + 4) o;
        early = a.early;
        received = ap (λ (z : State). z.received) (is ∙ waits-alone y) ∙ received-x;
        to_send = to_send-u;
        lost = ap (λ (z : State). z.lost) (is ∙ waits-alone y) ∙ lost-x;
      }

  further : is_over a.elapsed s.divisor ≡ true → is_stop f s ≡ false → Hears byte (time + 4) s u
  further o p =
      let full : d ≤ a.elapsed + 4 = leb-true d (a.elapsed + 4) o in
      let level = heard-is full in
      let start : is_false_start heard f ≡ false =
      no_false_start heard a.bit (λ z. level ∙ level_at-start s.line byte a.bit z) in
      let y = with_receiver (receivers.Frame (sampled heard f (a.elapsed + 4 - bit_time x.divisor))) x in
      let is : u ≡ after_waiting y =
      step-to line heard t (after_waiting y) on_t refl
      (hears-sample heard f x receiver-x (ap (is_over a.elapsed) divisor-x ∙ o)
      (ap (λ (l : LineControl). nat_le (stop_at l) a.bit) line-x ∙ p) start) in
      let one : suc a.bit ≡ a.bit + 1 = omega arith in
      let less : a.bit < stop_at s.line = leb-false (stop_at s.line) a.bit p in
      record {
        on = on_u;
        bit = a.bit + 1;
        elapsed = a.elapsed + 4 - d;
        is =
            ap (λ (z : State). z.receiver) is
            ∙ (ap (λ (z : State). z.receiver) (waits-alone y)
            ∙ (ap (λ (v : Divisor). receivers.Frame (sampled heard f (a.elapsed + 4 - bit_time v))) divisor-x
            ∙ ap
            (λ (k : ℕ). receivers.Frame (record { samples = k; bit = a.bit + 1; elapsed = a.elapsed + 4 - bit_time s.divisor }))
            (level-bit s byte heard a.bit level ∙ ap (samples_of s.line byte) one)));
        passed = next-passed a.bit d a.elapsed time a.passed full;
        within = over-rest d a.elapsed large a.within;
        early = omega arith;
        received = ap (λ (z : State). z.received) (is ∙ waits-alone y) ∙ received-x;
        to_send = to_send-u;
        lost = ap (λ (z : State). z.lost) (is ∙ waits-alone y) ∙ lost-x;
      }

  stops : is_over a.elapsed s.divisor ≡ true → is_stop f s ≡ true → Rests byte s u
  stops o p =
      let full : d ≤ a.elapsed + 4 = leb-true d (a.elapsed + 4) o in
      let level = heard-is full in
      let past : stop_at s.line ≤ a.bit = leb-true (stop_at s.line) a.bit p in
      let here : a.bit ≡ stop_at s.line = omega arith in
      let high : heard ≡ true = level ∙ level_at-stop s.line byte a.bit past in
      let y = with_receiver (cond heard receivers.Idle receivers.Waiting) x in
      let b = byte_heard x.line f.samples in
      let e = errors_of x.line f.samples heard in
      let fits : nat_lt (length y.received) (depth_of y) ≡ true =
      ap (λ (xs : List Received). nat_lt (length xs) (depth_of y)) received-x
      ∙ (ap (λ (l : LineControl). nat_lt (length s.received) (cond l.fifos 32 1)) line-x ∙ room) in
      let is : u ≡ with_waited (Some 0) (stored b e y) =
      step-to line heard t (with_waited (Some 0) (stored b e y)) on_t refl
      (hears-stop heard f x receiver-x (ap (is_over a.elapsed) divisor-x ∙ o)
      (ap (λ (l : LineControl). nat_le (stop_at l) a.bit) line-x ∙ p)
      ∙ room-stores b e y fits) in
      let next = on_u.sent in
      let more : a.bit ≤ next.bit =
      later_bit a.bit next.bit d a.elapsed next.elapsed time a.passed full next.passed next.within in
      let later : stop_at s.line ≤ next.bit = omega arith in
      record {
        same = on_u.same;
        receiver =
            ap (λ (z : State). z.receiver) is
            ∙ (stored-receiver b e y ∙ ap (λ (c : Bool). cond c receivers.Idle receivers.Waiting) high);
        received =
            ap (λ (z : State). z.received) is
            ∙ (stored-received b e y
            ∙ (ap (λ (xs : List Received). xs ++ entry x.line f.samples heard x.lost ∷ []) received-x
            ∙ ap (λ (r : Received). s.received ++ r ∷ [])
            (entry-is s.line byte a.bit x.line heard x.lost line-x here level lost-x)));
        to_send = to_send-u;
        high = rw next.is later;
      }

  ended : is_over a.elapsed s.divisor ≡ true → (stop : Bool) → is_stop f s ≡ stop → Stage byte (time + 4) s u
  ended o true p = rests (stops o p)
  ended o false p = hears (further o p)

  hears-by : (over : Bool) → is_over a.elapsed s.divisor ≡ over → Stage byte (time + 4) s u
  hears-by true o = ended o (is_stop f s) refl
  hears-by false o = hears (longer o)

  hears-next : Stage byte (time + 4) s u
  hears-next = hears-by (is_over a.elapsed s.divisor) refl

-- ---- the first two cycles

sending-idle : (s : State) → s.sender ≡ senders.Idle → after_sending s ≡ next_frame 0 s
unfolding after_sending
sending-idle s e = ap (λ (q : Sender). after_sender q s) e

next-first : (byte : ℕ) (s : State) → can_send s ≡ true → s.to_send ≡ byte ∷ [] → next_frame 0 s ≡ with_first (Some byte) 0 s
unfolding next_frame
next-first byte s c e =
    ap (λ (xs : List ℕ). cond (can_send s) (with_first (slice_get xs 0) 0 s) s) e
    ∙ ap (λ (b : Bool). cond b (with_first (Some byte) 0 s) s) c

first-sender : (byte : ℕ) (s : State) → (with_first (Some byte) 0 s).sender ≡ begun byte 0
first-sender byte s = first-by (λ (z : State). z.sender ≡ begun byte 0) byte 0 s refl refl

first-to_send : (byte : ℕ) (s : State) → (with_first (Some byte) 0 s).to_send ≡ drop 1 s.to_send
first-to_send byte s = first-by (λ (z : State). z.to_send ≡ drop 1 s.to_send) byte 0 s refl refl

record Begins (byte : ℕ) (s t : State) : Type 0 where
  on : On byte 0 s t
  receiver : t.receiver ≡ receivers.Idle
  received : t.received ≡ s.received
  to_send : t.to_send ≡ []
  lost : t.lost ≡ false

begins : (line : Bool) (byte : ℕ) (s : State) → HearsItself byte s → Begins byte s (after_step line s)
begins line byte s a =
    let x = after_sending s in
    let large = bit_time-large s.divisor a.running in
    let first : x ≡ with_first (Some byte) 0 s = sending-idle s a.sender ∙ next-first byte s a.sends a.to_send in
    let high : heard_of line s ≡ true = loops line s a.loops ∙ ap (λ (q : Sender). level_of q s.line) a.sender in
    let is : after_step line s ≡ after_waiting x =
    step-to line true s (after_waiting x) a.running high (idle-high x (ap (λ (z : State). z.receiver) (sends-alone s) ∙ a.receiver)) in
    record {
      on = record {
        same = same-step line s a.running;
        sent = record {
          bit = 0;
          elapsed = 0;
          is = sender-step line s a.running ∙ (ap (λ (z : State). z.sender) first ∙ first-sender byte s);
          passed = omega arith;
          within = omega arith;
        };
      };
      receiver = ap (λ (z : State). z.receiver) (is ∙ waits-alone x) ∙ ap (λ (z : State). z.receiver) (sends-alone s) ∙ a.receiver;
      received = ap (λ (z : State). z.received) (is ∙ waits-alone x) ∙ ap (λ (z : State). z.received) (sends-alone s);
      to_send =
          to_send-step line s a.running
          ∙ (ap (λ (z : State). z.to_send) first ∙ (first-to_send byte s ∙ ap (drop 1) a.to_send));
      lost = ap (λ (z : State). z.lost) (is ∙ waits-alone x) ∙ ap (λ (z : State). z.lost) (sends-alone s) ∙ a.complete;
    }

frame-long : (n d k : ℕ) → 64 ≤ d → n ≡ k + 1 → 4 < n * d
frame-long n d k large e =
    let one : 1 ≤ n = omega arith in
    let enough : 1 * d ≤ n * d = mul-le-mul_right d one in
    omega arith

frame-lasts : (byte : ℕ) (s : State) → 64 ≤ bit_time s.divisor → 4 < frame_time byte s
frame-lasts byte s large =
    frame-long (frame_length s.line byte) (bit_time s.divisor) (stop_at s.line + bit_number s.line.two_stops) large
    (frame_length-sum s.line byte)

begins-next : (line : Bool) (byte : ℕ) (s t : State) → HearsItself byte s → Begins byte s t → Hears byte 4 s (after_step line t)
begins-next line byte s t a b =
    let d = bit_time s.divisor in
    let large : 64 ≤ d = bit_time-large s.divisor a.running in
    let on_t = running-as s t b.on.same a.running in
    let x = after_sending t in
    let zero_bit : 0 / d ≡ 0 = times_of 0 d 0 0 (omega arith) (omega arith) in
    let low : heard_of line t ≡ false =
    loops line t (loopback-as s t b.on.same a.loops)
    ∙ (level_by s t byte 0 b.on ∙ level_at-start s.line byte (0 / d) zero_bit) in
    let can : can_receive x ≡ true =
    ap (λ (p : Settings). p.1.1.enabled && p.1.1.receive) (same-sending t ∙ b.on.same) ∙ a.receives in
    let y = with_receiver (first_heard x) x in
    let is : after_step line t ≡ after_waiting y =
    step-to line false t (after_waiting y) on_t low (idle-low x (ap (λ (z : State). z.receiver) (sends-alone t) ∙ b.receiver) can) in
    let soon = frame-lasts byte s large in
    record {
      on = on-next line s t byte 0 a.running b.on soon;
      bit = 0;
      elapsed = d / 2;
      is =
          ap (λ (z : State). z.receiver) is
          ∙ (ap (λ (z : State). z.receiver) (waits-alone y)
          ∙ ap (λ (p : Settings). receivers.Frame (record { samples = 0; bit = 0; elapsed = bit_time p.1.0 / 2 }))
          (same-sending t ∙ b.on.same));
      passed = omega arith;
      within = omega arith;
      early = omega arith;
      received = ap (λ (z : State). z.received) (is ∙ waits-alone y) ∙ ((ap (λ (z : State). z.received) (sends-alone t) ∙ b.received));
      to_send =
          to_send-step line t on_t ∙ ((goes-on s t byte 0 a.running b.on soon).to_send ∙ b.to_send);
      lost = ap (λ (z : State). z.lost) (is ∙ waits-alone y) ∙ ((ap (λ (z : State). z.lost) (sends-alone t) ∙ b.lost));
    }

-- ---- all cycles

stage-next : (line : Bool) (byte time : ℕ) (s t : State) → HearsItself byte s → Stage byte time s t →
    Stage byte (time + 4) s (after_step line t)
stage-next line byte time s t a (hears b) = hears-next line byte time s t a.running a.loops a.room b
stage-next line byte time s t a (rests b) = rests (rests-next line byte s t a.running a.loops b)

stage-at : (levels : ℕ → Bool) (byte k : ℕ) (s : State) → HearsItself byte s →
    Stage byte (4 * suc k) s (after_cycles levels (suc (suc k)) s)
stage-at levels byte zero s a =
    hears (begins-next (levels 1) byte s (after_step (levels 0) s) a (begins (levels 0) byte s a))
stage-at levels byte (suc k) s a =
    let e : 4 * suc k + 4 ≡ 4 * suc (suc k) = omega arith in
    subst (λ (time : ℕ). Stage byte time s (after_cycles levels (suc (suc (suc k))) s)) e
    (stage-next (levels (suc (suc k))) byte (4 * suc k) s (after_cycles levels (suc (suc k)) s) a (stage-at levels byte k s a))

comes : (byte time : ℕ) (s t : State) → HearsItself byte s → frame_time byte s ≤ time → Stage byte time s t →
    t.received ≡ s.received ++ record { byte = byte % 2 ^ width_of s.line.width; errors = no_errors } ∷ []
comes byte time s t a early (rests b) = b.received
comes byte time s t a early (hears b) =
    let soon =
    still_early b.bit (bit_time s.divisor) b.elapsed time (frame_length s.line byte) (bit_time-large s.divisor a.running) b.passed b.within
    (omega (arith, b.early, frame_length-sum s.line byte)) in
    absurd (omega (arith, soon, early))

pub the_byte_comes_back : TheByteComesBack
the_byte_comes_back s levels byte zero a early =
    let long = frame-lasts byte s (bit_time-large s.divisor a.running) in
    absurd (omega (arith, long, early))
the_byte_comes_back s levels byte (suc k) a early =
    comes byte (4 * suc k) s (after_cycles levels (suc (suc k)) s) a early (stage-at levels byte k s a)

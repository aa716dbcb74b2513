-- A frame takes the time of its bits: how much of it has passed is the number of its bit times the time of a bit, and what
-- has passed of the bit.
use Rattle.std.proofs.Common.{◌≡◌, ◌∙◌, ℕ, zero, suc, ◌+◌, ◌-◌, ◌*◌, ◌/◌, ◌<◌, ◌≤◌, Bool, true, false, cond, Some, None, refl, sym, ap, subst, arith}
use Rattle.std.specs.Prelude.{◌&&◌, nat_lt, nat_le}
use Rattle.std.proofs.Math.Bool.{and-false}
use Rattle.std.proofs.Math.Nat.{add-mul, mul-le-mul_right, lt_of_mul-lt-mul_right, mul-add-div_right, div-eq_of_lt}
use Rattle.std.proofs.lemmas.Bool.{leb-true, lt-leb, leb-false}
use Rattle.std.proofs.lemmas.Grind.{common_steps}
use Rattle.std.proofs.lemmas.Bool.Decides.{nat_tests}
use Rattle.rp_uart.specs.declared.control.Control.{Control}
use Rattle.rp_uart.specs.declared.control.Divisor.{Divisor}
use Rattle.rp_uart.specs.declared.frame.LineControl.{LineControl}
use Rattle.rp_uart.specs.declared.sender.Sending.{Sending}
use Rattle.rp_uart.specs.declared.sender.Sender.{Sender}
use Rattle.rp_uart.specs.declared.sender.Sender.TheVariants as senders
use Rattle.rp_uart.specs.Frame.{level_at, frame_length}
use Rattle.rp_uart.specs.Laws.{after_cycles, frame_time, AFrameTakesItsTime}
use Rattle.rp_uart.specs.Receiver.{after_receiving}
use Rattle.rp_uart.specs.Sender.{bit_time, is_over, level_of, with_sender, is_last_bit, after_frame, after_sender, after_sending, ended_byte}
use Rattle.rp_uart.specs.State.{State}
use Rattle.rp_uart.specs.Step.{is_running, output_of, heard_of, after_step, sent_byte}
use Rattle.rp_uart.proofs.Kept.{sends-alone, hears-alone}

-- ---- numbers

pub bit_time-large : (d : Divisor) → nat_lt 0 d.integer ≡ true → 64 ≤ bit_time d
bit_time-large d h = grind (arith, nat_tests, common_steps)

pub one_more : (b d : ℕ) → (b + 1) * d ≡ b * d + d
one_more b d = omega (arith, add-mul b 1 d)

-- a number of times is found from the product and a rest
pub times_of : (b d r t : ℕ) → b * d + r ≡ t → r < d → t / d ≡ b
times_of b d r t e h =
    let positive : 0 < d = omega arith in
    let rest : r / d ≡ 0 = div-eq_of_lt h in
    ap (λ (x : ℕ). x / d) (sym e) ∙ (mul-add-div_right positive b r ∙ omega arith)

-- fewer times is less
pub fewer : (b n d t : ℕ) → b * d ≤ t → t < n * d → b < n
fewer b n d t h i = lt_of_mul-lt-mul_right d (omega arith)

-- the next bit, after a rest
over-time : (b d r t : ℕ) → b * d + r ≡ t → d ≤ r + 4 → (b + 1) * d + (r + 4 - d) ≡ t + 4
over-time b d r t e h = omega (arith, one_more b d)

pub over-rest : (d r : ℕ) → 64 ≤ d → r < d → r + 4 - d < d
over-rest d r h w = omega arith

over-less : (b d r t n : ℕ) → b * d + r ≡ t → d ≤ r + 4 → t + 4 < n * d → b + 1 < n
over-less b d r t n e h early = fewer (b + 1) n d (t + 4) (omega (arith, one_more b d)) early

-- whether the last bit is over
last_over-by : (b d r t total : ℕ) → b * d + r ≡ t → total ≡ b * d + d → (c : Bool) → nat_le d (r + 4) ≡ c →
    (c && true) ≡ nat_le total (t + 4)
last_over-by b d r t total e f c h = grind (arith, nat_tests)

last_over : (b n d r t : ℕ) → b * d + r ≡ t → r < d → t < n * d → 64 ≤ d → (c : Bool) → nat_le n (b + 1) ≡ c →
    (nat_le d (r + 4) && c) ≡ nat_le (n * d) (t + 4)
last_over b n d r t e w early large true h =
    let less : b < n = fewer b n d t (omega arith) early in
    let top : n ≤ b + 1 = leb-true n (b + 1) h in
    let is : n ≡ b + 1 = omega arith in
    let total : n * d ≡ b * d + d = ap (λ (x : ℕ). x * d) is ∙ one_more b d in
    last_over-by b d r t (n * d) e total (nat_le d (r + 4)) refl
last_over b n d r t e w early large false h =
    let less : b + 1 < n = leb-false n (b + 1) h in
    let more : b + 2 ≤ n = omega arith in
    let two : (b + 2) * d ≡ b * d + 2 * d = add-mul b 2 d in
    let enough : (b + 2) * d ≤ n * d = mul-le-mul_right d more in
    and-false (nat_le d (r + 4)) ∙ sym (lt-leb (n * d) (t + 4) (omega arith))

-- ---- where the sender is

-- of the frame of a byte this much time has passed
pub record Sent (byte time d : ℕ) (sender : Sender) : Type 0 where
  pub bit : ℕ
  pub elapsed : ℕ
  pub is : sender ≡ senders.Frame (record { byte = byte; bit = bit; elapsed = elapsed })
  pub passed : bit * d + elapsed ≡ time
  pub within : elapsed < d

not_over : (f : Sending) (s : State) → is_over f.elapsed s.divisor ≡ false →
    after_frame f s ≡ with_sender (senders.Frame (record f { elapsed = f.elapsed + 4 })) s
not_over f s e = rw e refl

next_bit : (f : Sending) (s : State) → is_over f.elapsed s.divisor ≡ true → is_last_bit f s ≡ false →
    after_frame f s
    ≡ with_sender (senders.Frame (record f { bit = f.bit + 1; elapsed = f.elapsed + 4 - bit_time s.divisor })) s
next_bit f s e h = rw (e, h) refl

sending-frame : (f : Sending) (s : State) → s.sender ≡ senders.Frame f → after_sending s ≡ after_frame f s
unfolding after_sending
sending-frame f s e = ap (λ (x : Sender). after_sender x s) e

-- a cycle of a frame that does not end in it changes the sender alone
pub record Goes (byte time : ℕ) (s t : State) : Type 0 where
  pub sent : Sent byte time (bit_time s.divisor) t.sender
  pub to_send : t.to_send ≡ s.to_send

goes-by : (s t : State) (f : Sending) (byte time : ℕ) → t ≡ with_sender (senders.Frame f) s →
    f.byte ≡ byte → f.bit * bit_time s.divisor + f.elapsed ≡ time → f.elapsed < bit_time s.divisor → Goes byte time s t
goes-by s t f byte time e b p w = record {
  sent = record {
    bit = f.bit;
    elapsed = f.elapsed;
    is = ap (λ (x : State). x.sender) e ∙ ap (λ (x : ℕ). senders.Frame (record f { byte = x })) b;
    passed = p;
    within = w;
  };
  to_send = ap (λ (x : State). x.to_send) e;
}

goes-over : (s : State) (byte bit elapsed time : ℕ) → 64 ≤ bit_time s.divisor →
    s.sender ≡ senders.Frame (record { byte = byte; bit = bit; elapsed = elapsed }) →
    bit * bit_time s.divisor + elapsed ≡ time → elapsed < bit_time s.divisor →
    time + 4 < frame_time byte s →
    (over : Bool) → is_over elapsed s.divisor ≡ over → Goes byte (time + 4) s (after_sending s)
goes-over s byte bit elapsed time large is passed within early true over =
    let d = bit_time s.divisor in
    let n = frame_length s.line byte in
    let f : Sending = record { byte = byte; bit = bit; elapsed = elapsed } in
    let g : Sending = record { byte = byte; bit = bit + 1; elapsed = elapsed + 4 - d } in
    let full : d ≤ elapsed + 4 = leb-true d (elapsed + 4) over in
    let last : is_last_bit f s ≡ false =
    lt-leb n (bit + 1) (over-less bit d elapsed time n passed full early) in
    goes-by s (after_sending s) g byte (time + 4) (sending-frame f s is ∙ next_bit f s over last) refl
    (over-time bit d elapsed time passed full) (over-rest d elapsed large within)
goes-over s byte bit elapsed time large is passed within early false over =
    let d = bit_time s.divisor in
    let f : Sending = record { byte = byte; bit = bit; elapsed = elapsed } in
    let g : Sending = record { byte = byte; bit = bit; elapsed = elapsed + 4 } in
    goes-by s (after_sending s) g byte (time + 4) (sending-frame f s is ∙ not_over f s over) refl
    (omega (arith, passed)) (leb-false d (elapsed + 4) over)

pub goes : (s : State) (byte time : ℕ) → 64 ≤ bit_time s.divisor → Sent byte time (bit_time s.divisor) s.sender →
    time + 4 < frame_time byte s → Goes byte (time + 4) s (after_sending s)
goes s byte time large a early =
    goes-over s byte a.bit a.elapsed time large a.is a.passed a.within early (is_over a.elapsed s.divisor) refl

-- ---- a cycle of the whole

pub runs : (line : Bool) (s : State) → is_running s ≡ true → after_step line s ≡ after_receiving (heard_of line s) (after_sending s)
runs line s e = rw e refl

-- what neither sending nor receiving touches
abbrev pub Settings : Type 0
Settings = LineControl × (Divisor × Control)

abbrev pub settings : State → Settings
settings s = (s.line, (s.divisor, s.control))

abbrev pub Same : State → State → Type 0
Same s t = settings t ≡ settings s

pub same-sending : (s : State) → Same s (after_sending s)
same-sending s = ap settings (sends-alone s)

pub same-step : (line : Bool) (s : State) → is_running s ≡ true → Same s (after_step line s)
same-step line s e =
    ap settings (runs line s e ∙ hears-alone (heard_of line s) (after_sending s)) ∙ same-sending s

pub running-as : (s t : State) → Same s t → is_running s ≡ true → is_running t ≡ true
running-as s t a e = ap (λ (p : Settings). nat_lt 0 p.1.0.integer) a ∙ e

pub sender-received : (line : Bool) (s : State) → (after_receiving line s).sender ≡ s.sender
sender-received line s = ap (λ (t : State). t.sender) (hears-alone line s)

pub to_send-received : (line : Bool) (s : State) → (after_receiving line s).to_send ≡ s.to_send
to_send-received line s = ap (λ (t : State). t.to_send) (hears-alone line s)

pub sender-step : (line : Bool) (s : State) → is_running s ≡ true → (after_step line s).sender ≡ (after_sending s).sender
sender-step line s e = ap (λ (t : State). t.sender) (runs line s e) ∙ sender-received (heard_of line s) (after_sending s)

-- ---- many cycles

-- the frame of a byte goes on in a UART with the settings of the one at first
pub record On (byte time : ℕ) (s t : State) : Type 0 where
  pub same : Same s t
  pub sent : Sent byte time (bit_time s.divisor) t.sender

moved : (byte time : ℕ) (d e : ℕ) (x y : Sender) → e ≡ d → y ≡ x → Sent byte time e x → Sent byte time d y
moved byte time d e x y p q a = subst (λ (v : ℕ). Sent byte time v y) p (subst (λ (z : Sender). Sent byte time e z) (sym q) a)

pub frame_time-as : (byte : ℕ) (s t : State) → Same s t → frame_time byte t ≡ frame_time byte s
frame_time-as byte s t a = ap (λ (p : Settings). frame_length p.0 byte * bit_time p.1.0) a

pub goes-on : (s t : State) (byte time : ℕ) → is_running s ≡ true → On byte time s t →
    time + 4 < frame_time byte s → Goes byte (time + 4) t (after_sending t)
goes-on s t byte time runs a early =
    let large : 64 ≤ bit_time t.divisor = bit_time-large t.divisor (running-as s t a.same runs) in
    let d : bit_time t.divisor ≡ bit_time s.divisor = ap (λ (p : Settings). bit_time p.1.0) a.same in
    let here : Sent byte time (bit_time t.divisor) t.sender = moved byte time _ _ _ _ (sym d) refl a.sent in
    goes t byte time large here (rw (frame_time-as byte s t a.same) early)

pub on-next : (line : Bool) (s t : State) (byte time : ℕ) → is_running s ≡ true → On byte time s t →
    time + 4 < frame_time byte s → On byte (time + 4) s (after_step line t)
on-next line s t byte time runs a early =
    let running : is_running t ≡ true = running-as s t a.same runs in
    let d : bit_time t.divisor ≡ bit_time s.divisor = ap (λ (p : Settings). bit_time p.1.0) a.same in
    record {
      same = same-step line t running ∙ a.same;
      sent = moved byte (time + 4) _ _ _ _ d (sender-step line t running) (goes-on s t byte time runs a early).sent;
    }

on-after : (s : State) (levels : ℕ → Bool) (byte elapsed n : ℕ) → is_running s ≡ true →
    On byte elapsed s s → elapsed + 4 * n < frame_time byte s → On byte (elapsed + 4 * n) s (after_cycles levels n s)
on-after s levels byte elapsed zero runs a early =
    let e : elapsed ≡ elapsed + 4 * zero = omega arith in
    subst (λ (time : ℕ). On byte time s s) e a
on-after s levels byte elapsed (suc n) runs a early =
    let e : elapsed + 4 * n + 4 ≡ elapsed + 4 * suc n = omega arith in
    let sooner : elapsed + 4 * n + 4 < frame_time byte s = rw e early in
    let now : elapsed + 4 * n < frame_time byte s = omega (arith, sooner) in
    subst (λ (time : ℕ). On byte time s (after_cycles levels (suc n) s)) e
    (on-next (levels n) s (after_cycles levels n s) byte (elapsed + 4 * n) runs
    (on-after s levels byte elapsed n runs a now) sooner)

pub level_by : (s t : State) (byte time : ℕ) → On byte time s t →
    output_of t ≡ level_at s.line byte (time / bit_time s.divisor)
level_by s t byte time a =
    ap (λ (x : Sender). level_of x t.line) a.sent.is
    ∙ (ap (λ (p : Settings). level_at p.0 byte a.sent.bit) a.same
    ∙ ap (level_at s.line byte)
    (sym (times_of a.sent.bit (bit_time s.divisor) a.sent.elapsed time a.sent.passed a.sent.within)))

runs-sent : (t : State) → is_running t ≡ true → sent_byte t ≡ ended_byte t.sender t
runs-sent t e = rw e refl

ends_by : (s t : State) (byte time : ℕ) → is_running s ≡ true → On byte time s t → time < frame_time byte s →
    sent_byte t ≡ cond (nat_le (frame_time byte s) (time + 4)) (Some byte) None
ends_by s t byte time runs a early =
    let running : is_running t ≡ true = running-as s t a.same runs in
    let large : 64 ≤ bit_time t.divisor = bit_time-large t.divisor running in
    let d : bit_time t.divisor ≡ bit_time s.divisor = ap (λ (p : Settings). bit_time p.1.0) a.same in
    let total : frame_time byte t ≡ frame_time byte s = frame_time-as byte s t a.same in
    let here : Sent byte time (bit_time t.divisor) t.sender = moved byte time _ _ _ _ (sym d) refl a.sent in
    let sooner : time < frame_time byte t = rw total early in
    runs-sent t running
    ∙ (ap (λ (x : Sender). ended_byte x t) here.is
    ∙ (ap (λ (c : Bool). cond c (Some byte) None)
    (last_over here.bit (frame_length t.line byte) (bit_time t.divisor) here.elapsed time here.passed here.within sooner large
    (nat_le (frame_length t.line byte) (here.bit + 1)) refl)
    ∙ ap (λ (x : ℕ). cond (nat_le x (time + 4)) (Some byte) None) total))

pub a_frame_takes_its_time : AFrameTakesItsTime
a_frame_takes_its_time s levels byte elapsed n runs begins within early =
    let start : On byte elapsed s s = record {
      same = refl;
      sent = record { bit = 0; elapsed = elapsed; is = begins; passed = omega arith; within = within };
    } in
    let time = elapsed + 4 * n in
    let t = after_cycles levels n s in
    let on = on-after s levels byte elapsed n runs start early in
    let next : elapsed + 4 * n + 4 ≡ elapsed + 4 * (n + 1) = omega arith in
    record {
      level = level_by s t byte time on;
      ends =
          ends_by s t byte time runs on early
          ∙ ap (λ (x : ℕ). cond (nat_le (frame_time byte s) x) (Some byte) None) next;
    }

-- Reads that change nothing: no interrupt's cause is gone, and no byte is taken.
use Rattle.std.proofs.Common.{◌≡◌, ◌∙◌, ℕ, Bool, true, false, cond, Option, None, refl, sym, ap, rules, arith}
use Rattle.std.proofs.lemmas.Bool.Decides.{nat_tests}
use Rattle.std.specs.Prelude.{◌==◌, not, ◌&&◌, nat_lt, length, drop}
use Rattle.rp_base.proofs.Rows.{still, either-way}
use Rattle.rp_uart.specs.declared.receiver.Receiver.{Receiver}
use Rattle.rp_uart.specs.declared.sender.Sender.{Sender}
use Rattle.rp_uart.specs.Interrupts.{receive_trigger, transmit_trigger, receive_interrupt, transmit_interrupt, timeout_interrupt, with_raw, cleared_if, settled}
use Rattle.rp_uart.specs.Quiet.{IsLater}
use Rattle.rp_uart.specs.State.{State}
use Rattle.rp_uart.specs.Words.{uart_rows, is_word, is_pure_read, after_access, effect_of}

abbrev at : Sender → Receiver → Option ℕ → State → State
at x y z s = record s { sender = x; receiver = y; waited = z }

cleared_at : (goes : Bool) (set : ℕ) (x : Sender) (y : Receiver) (z : Option ℕ) (s : State) → cleared_if goes set (at x y z s) ≡ at x y z (cleared_if goes set s)
cleared_at true set x y z s = refl
cleared_at false set x y z s = refl

settled_at : (x : Sender) (y : Receiver) (z : Option ℕ) (s : State) → settled (at x y z s) ≡ at x y z (settled s)
unfolding settled
settled_at x y z s =
    let few = nat_lt (length s.received) (receive_trigger s) in
    let many = nat_lt (transmit_trigger s) (length s.to_send) in
    let none = length s.received == 0 in
    ap (λ (t : State). cleared_if none timeout_interrupt (cleared_if many transmit_interrupt t)) (cleared_at few receive_interrupt x y z s)
    ∙ ap (cleared_if none timeout_interrupt) (cleared_at many transmit_interrupt x y z (cleared_if few receive_interrupt s))
    ∙ cleared_at none timeout_interrupt x y z (cleared_if many transmit_interrupt (cleared_if few receive_interrupt s))

settled_raw : (s : State) → settled s ≡ with_raw (settled s).raw s
unfolding settled
settled_raw s =
    let few = nat_lt (length s.received) (receive_trigger s) in
    let many = nat_lt (transmit_trigger s) (length s.to_send) in
    let none = length s.received == 0 in
    cases few many none
  where
    cases : (a b c : Bool) → cleared_if c timeout_interrupt (cleared_if b transmit_interrupt (cleared_if a receive_interrupt s)) ≡ with_raw (cleared_if c timeout_interrupt (cleared_if b transmit_interrupt (cleared_if a receive_interrupt s))).raw s
    cases true true true = refl
    cases true true false = refl
    cases true false true = refl
    cases true false false = refl
    cases false true true = refl
    cases false true false = refl
    cases false false true = refl
    cases false false false = refl

settled_still : (s : State) → ((settled s).raw == s.raw) ≡ true → settled s ≡ s
settled_still s e =
    let same : (settled s).raw ≡ s.raw = grind (arith, nat_tests) in
    settled_raw s ∙ ap (λ (raw : ℕ). with_raw raw s) same

both : (b c : Bool) → (not b && c) ≡ true → (b ≡ false) × (c ≡ true)
both true c e = (sym e, cc e)
both false c e = (refl, e)

-- as long as only time passes, the same reads change nothing
pub pure_later : (s t : State) (offset : ℕ) → IsLater s t → is_pure_read offset t ≡ is_pure_read offset s
pure_later s t offset later =
    let same : settled t ≡ at t.sender t.receiver t.waited (settled s) = ap settled later ∙ settled_at t.sender t.receiver t.waited s in
    let raw : t.raw ≡ s.raw = ap (λ (x : State). x.raw) later in
    ap (λ (x : State). not (offset == 0) && x.raw == t.raw) same ∙ ap (λ (x : ℕ). not (offset == 0) && (settled s).raw == x) raw

read_still : (offset : ℕ) (s : State) → (offset == 0) ≡ false → after_access offset None s ≡ s
read_still offset s e = rw e (still (drop 1 uart_rows) offset s (search rules))

pub pure_still : (offset : ℕ) (s : State) → is_pure_read offset s ≡ true → effect_of offset None s ≡ s
unfolding effect_of
pure_still offset s e =
    let parts = both (offset == 0) ((settled s).raw == s.raw) e in
    ap (λ (u : State). cond (is_word offset) (settled u) s) (read_still offset s parts.0)
    ∙ either-way (λ (u : State). u ≡ s) (is_word offset) (settled_still s parts.1) refl

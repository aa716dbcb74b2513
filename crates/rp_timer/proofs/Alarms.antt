-- An alarm goes off once.
use Rattle.std.proofs.Common.{◌∙◌, ap, ◌≡◌, ℕ, zero, suc, ◌+◌, ◌-◌, ◌*◌, ◌%◌, ◌^◌, ◌<◌, Bool, true, false, not, ◌&&◌, ◌||◌, refl, arith, max, min, List}
use Rattle.std.specs.Prelude.{◌==◌, bit_or, slice_index}
use Rattle.std.specs.Int.{bit_at, w32, bit_not}
use Rattle.std.proofs.lemmas.Grind.{common_steps}
use Rattle.std.proofs.lemmas.Nat.Bits.{bit_at_or, bit_at_and, bit_at_not, bit_at-lt}
use Rattle.std.proofs.lemmas.Bool.Decides.{nat_tests}
use Rattle.rp_base.specs.Word.{has_bit, bit_number}
use Rattle.rp_timer.specs.State.{State, low_of}
use Rattle.rp_base.specs.Word.{minus}
use Rattle.rp_timer.specs.Step.{is_due, due_of, alarmed}
use Rattle.rp_timer.specs.Laws.{after_rises, passes, GoesOff, AnAlarmGoesOffOnce}

-- ---- bits of sets

bit_or_of : (x y : ℕ) → x < 2 → y < 2 → (max x y == 1) ≡ (x == 1 || y == 1)
bit_or_of x y h i = grind (arith, nat_tests, common_steps)

has_bit-or : (a b n : ℕ) → has_bit (bit_or a b) n ≡ (has_bit a n || has_bit b n)
has_bit-or a b n = ap (λ x. x == 1) (bit_at_or a b n) ∙ bit_or_of (bit_at a n) (bit_at b n) (bit_at-lt a n) (bit_at-lt b n)

bit_and_not : (x y : ℕ) → x < 2 → y < 2 → (min x (1 - y) == 1) ≡ (x == 1 && not (y == 1))
bit_and_not x y h i = grind (arith, nat_tests, common_steps)

has_bit-minus : (a b n : ℕ) → b < 2 ^ 32 → n < 32 → has_bit (minus a b) n ≡ (has_bit a n && not (has_bit b n))
has_bit-minus a b n h i =
    ap (λ x. x == 1) (bit_at_and a (bit_not w32 b) n ∙ ap (min (bit_at a n)) (bit_at_not w32 b n h i))
    ∙ bit_and_not (bit_at a n) (bit_at b n) (bit_at-lt a n) (bit_at-lt b n)

-- ---- the set of the alarms that are due

abbrev four : Bool → Bool → Bool → Bool → ℕ
four a b c d = bit_number a + bit_number b * 2 + bit_number c * 4 + bit_number d * 8

record AreBits (a b c d : Bool) : Type 0 where
  below : four a b c d < 2 ^ 32
  bit0 : has_bit (four a b c d) 0 ≡ a
  bit1 : has_bit (four a b c d) 1 ≡ b
  bit2 : has_bit (four a b c d) 2 ≡ c
  bit3 : has_bit (four a b c d) 3 ≡ d

are_bits : (a b c d : Bool) → AreBits a b c d
are_bits false false false false = record { below = omega arith; bit0 = refl; bit1 = refl; bit2 = refl; bit3 = refl }
are_bits false false false true = record { below = omega arith; bit0 = refl; bit1 = refl; bit2 = refl; bit3 = refl }
are_bits false false true false = record { below = omega arith; bit0 = refl; bit1 = refl; bit2 = refl; bit3 = refl }
are_bits false false true true = record { below = omega arith; bit0 = refl; bit1 = refl; bit2 = refl; bit3 = refl }
are_bits false true false false = record { below = omega arith; bit0 = refl; bit1 = refl; bit2 = refl; bit3 = refl }
are_bits false true false true = record { below = omega arith; bit0 = refl; bit1 = refl; bit2 = refl; bit3 = refl }
are_bits false true true false = record { below = omega arith; bit0 = refl; bit1 = refl; bit2 = refl; bit3 = refl }
are_bits false true true true = record { below = omega arith; bit0 = refl; bit1 = refl; bit2 = refl; bit3 = refl }
are_bits true false false false = record { below = omega arith; bit0 = refl; bit1 = refl; bit2 = refl; bit3 = refl }
are_bits true false false true = record { below = omega arith; bit0 = refl; bit1 = refl; bit2 = refl; bit3 = refl }
are_bits true false true false = record { below = omega arith; bit0 = refl; bit1 = refl; bit2 = refl; bit3 = refl }
are_bits true false true true = record { below = omega arith; bit0 = refl; bit1 = refl; bit2 = refl; bit3 = refl }
are_bits true true false false = record { below = omega arith; bit0 = refl; bit1 = refl; bit2 = refl; bit3 = refl }
are_bits true true false true = record { below = omega arith; bit0 = refl; bit1 = refl; bit2 = refl; bit3 = refl }
are_bits true true true false = record { below = omega arith; bit0 = refl; bit1 = refl; bit2 = refl; bit3 = refl }
are_bits true true true true = record { below = omega arith; bit0 = refl; bit1 = refl; bit2 = refl; bit3 = refl }

due-bits : (s : State) → AreBits (is_due 0 s) (is_due 1 s) (is_due 2 s) (is_due 3 s)
due-bits s = are_bits (is_due 0 s) (is_due 1 s) (is_due 2 s) (is_due 3 s)

due-bit : (s : State) (n : ℕ) → n < 4 → has_bit (due_of s) n ≡ is_due n s
due-bit s zero h = (due-bits s).bit0
due-bit s (suc zero) h = (due-bits s).bit1
due-bit s (suc (suc zero)) h = (due-bits s).bit2
due-bit s (suc (suc (suc zero))) h = (due-bits s).bit3
due-bit s (suc (suc (suc (suc n)))) h = absurd (omega arith)

raised-bit : (s : State) (n : ℕ) → n < 4 → has_bit (alarmed s).raised n ≡ (has_bit s.raised n || is_due n s)
raised-bit s n h = has_bit-or s.raised (due_of s) n ∙ ap (λ b. has_bit s.raised n || b) (due-bit s n h)

armed-bit : (s : State) (n : ℕ) → n < 4 → has_bit (alarmed s).armed n ≡ (has_bit s.armed n && not (is_due n s))
armed-bit s n h =
    has_bit-minus s.armed (due_of s) n (due-bits s).below (omega arith) ∙ ap (λ b. has_bit s.armed n && not b) (due-bit s n h)

-- ---- the time rises

alarms-rises : (k : ℕ) (s : State) → (after_rises k s).alarms ≡ s.alarms
alarms-rises zero s = refl
alarms-rises (suc k) s = alarms-rises k s

low-next : (t k m : ℕ) → t % 2 ^ 64 ≡ (m + k) % 2 ^ 64 → low_of ((t + 1) % 2 ^ 64) ≡ low_of (m + (k + 1))
low-next t k m e = omega arith

time-rises : (k : ℕ) (s : State) → (after_rises k s).time % 2 ^ 64 ≡ (s.time + k) % 2 ^ 64
time-rises zero s = omega arith
time-rises (suc k) s = omega (arith, time-rises k s)

-- an alarm that was raised or armed, and is passed or not now
raised-now : (p e : Bool) → (p || (not p && e)) ≡ (p || e)
raised-now true e = refl
raised-now false e = refl

armed-now : (p e : Bool) → (not p && not (not p && e)) ≡ not (p || e)
armed-now true e = refl
armed-now false e = refl

raised-next : (r a f p e : Bool) → r ≡ p → a ≡ not p → f ≡ e → (r || (a && f)) ≡ (p || e)
raised-next r a f p e x y z = rw (x, y, z) (raised-now p e)

armed-next : (a f p e : Bool) → a ≡ not p → f ≡ e → (a && not (a && f)) ≡ not (p || e)
armed-next a f p e x y = rw (x, y) (armed-now p e)

goes_off : (s : State) (n k : ℕ) → n < 4 → has_bit s.armed n ≡ true → has_bit s.raised n ≡ false → GoesOff s (after_rises k s) n k
goes_off s n zero h a r = record { raised = r; armed = a }
goes_off s n (suc k) h a r =
    let before = goes_off s n k h a r in
    let old = after_rises k s in
    let now : State = record old { time = (old.time + 1) % 2 ^ 64 } in
    let p = passes s.time (slice_index s.alarms n) k in
    let is_passed = slice_index s.alarms n == low_of (s.time + (k + 1)) in
    let e : (slice_index old.alarms n == low_of now.time) ≡ is_passed =
    ap (λ (xs : List ℕ). slice_index xs n == low_of now.time) (alarms-rises k s)
    ∙ ap (λ (x : ℕ). slice_index s.alarms n == x) (low-next old.time k s.time (time-rises k s)) in
    record {
      raised = raised-bit now n h ∙ raised-next _ _ _ p is_passed before.raised before.armed e;
      armed = armed-bit now n h ∙ armed-next _ _ p is_passed before.armed e;
    }

pub an_alarm_goes_off_once : AnAlarmGoesOffOnce
an_alarm_goes_off_once = λ s n k h a r. goes_off s n k h a r

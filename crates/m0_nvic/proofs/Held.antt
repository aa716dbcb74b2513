-- An interrupt whose line is held high through its handler: not pending there, and pending again behind the return.
use Rattle.std.proofs.Common.{◌≡◌, ℕ, ◌+◌, ◌-◌, ◌*◌, ◌^◌, ◌<◌, ◌==◌, ◌&&◌, Bool, true, false, cond, List, [], ◌∷◌, length, refl, sym, ap, ap₂, ◌∙◌, arith, lt-ltb}
use Rattle.std.specs.Prelude.{max, min, bit_and, bit_or}
use Rattle.std.specs.Int.{bit_at, w64}
use Rattle.std.proofs.Math.Pow.{pow-lt}
use Rattle.std.proofs.lemmas.Nat.Bits.{bit_at_and, bit_at_or, bit_at_not, bit_at-lt, bit_at-pow_same, bit_at-pow_other, bit_at_cat_high}
use Rattle.std.proofs.lemmas.Nat.{and_le_l, and_le_r, or_lt}
use Rattle.std.proofs.lemmas.Bool.Decides.{nat_tests}
use Rattle.rp_base.specs.Word.{has_bit}
use Rattle.m0_nvic.specs.State.{State}
use Rattle.m0_nvic.specs.Numbers.{is_number, is_member, minus, of_interrupts}
use Rattle.m0_nvic.specs.Changes.{with_pending, entered, left}
use Rattle.m0_nvic.specs.Cycle.{timer_pends, timer_after, with_timer, after_timer, risen, after_cycle}
use Rattle.m0_nvic.specs.Laws.{after_cycles, IsHeld, AHeldLinePendsAgain}

-- ---- bits

one_of : (x : ℕ) → (x == 1) ≡ true → x ≡ 1
one_of x h = grind (arith, nat_tests)

pub minus_at : (a b k : ℕ) → b < 2 ^ 64 → k < 64 → bit_at (minus a b) k ≡ min (bit_at a k) (1 - bit_at b k)
minus_at a b k fits within = bit_at_and a (2 ^ 64 - 1 - b) k ∙ ap (min (bit_at a k)) (bit_at_not w64 b k fits within)

of_interrupts_at : (lines i : ℕ) → bit_at (of_interrupts lines) (16 + i) ≡ bit_at lines i
of_interrupts_at lines i =
    let e : lines * 2 ^ 16 + 0 ≡ lines * 2 ^ 16 = omega arith in
    let f : 16 + i - 16 ≡ i = omega arith in
    sym (ap (λ n. bit_at n (16 + i)) e) ∙ bit_at_cat_high lines 16 0 (16 + i) (omega arith) (omega arith) ∙ ap (bit_at lines) f

pub pow_fits : (k : ℕ) → k < 64 → 2 ^ k < 2 ^ 64
pow_fits k h = pow-lt h

minus_less : (a b : ℕ) → a < 2 ^ 64 → minus a b < 2 ^ 64
minus_less a b h = omega (arith, and_le_l a (2 ^ 64 - 1 - b), h)

-- ---- one cycle

-- the timer leaves the interrupts as they are
record Alike (k : ℕ) (e f : State) : Type 0 where
  lines : f.lines ≡ e.lines
  active : f.active ≡ e.active
  pending : bit_at f.pending k ≡ bit_at e.pending k

alike_pended : (k : ℕ) (b : Bool) (e f : State) → 15 < k → f.lines ≡ e.lines → f.active ≡ e.active → f.pending ≡ e.pending
    → Alike k e (cond b (with_pending (2 ^ 15) f) f)
alike_pended k true e f above l a p = record {
  lines = l;
  active = a;
  pending = omega (arith, bit_at_or f.pending (2 ^ 15) k, bit_at-pow_other 15 k (omega arith), ap (λ x. bit_at x k) p);
}
alike_pended k false e f above l a p = record { lines = l; active = a; pending = ap (λ x. bit_at x k) p }

alike_timer : (k cycle : ℕ) (e : State) → 15 < k → Alike k e (after_timer cycle e)
alike_timer k cycle e above =
    alike_pended k (timer_pends cycle e.systick) e (with_timer (timer_after cycle e.systick) e) above refl refl refl

-- a line makes its interrupt pending, unless it was high before and the interrupt is active
abbrev pub pended_by : ℕ → ℕ → ℕ → ℕ → ℕ
pended_by p now before active = max p (min now (1 - min before active))

risen_at : (lines i : ℕ) (f : State) → i < 32 → f.active < 2 ^ 64
    → bit_at (risen lines f) (16 + i) ≡ min (bit_at lines i) (1 - min (bit_at f.lines i) (bit_at f.active (16 + i)))
risen_at lines i f h fits =
    let both = bit_and (of_interrupts f.lines) f.active in
    minus_at (of_interrupts lines) both (16 + i) (omega (arith, and_le_r (of_interrupts f.lines) f.active, fits)) (omega arith)
    ∙ ap₂ (λ x y. min x (1 - y)) (of_interrupts_at lines i)
    (bit_at_and (of_interrupts f.lines) f.active (16 + i) ∙ ap (λ x. min x (bit_at f.active (16 + i))) (of_interrupts_at f.lines i))

pub record Ended (now i : ℕ) (e f : State) : Type 0 where
  pub lines : f.lines ≡ now
  pub active : f.active ≡ e.active
  pub pending : bit_at f.pending (16 + i) ≡ pended_by (bit_at e.pending (16 + i)) (bit_at now i) (bit_at e.lines i) (bit_at e.active (16 + i))

ended_cycle : (lines i cycle : ℕ) (e : State) → i < 32 → e.active < 2 ^ 64 → Ended lines i e (after_cycle lines cycle e)
ended_cycle lines i cycle e h fits =
    let t = after_timer cycle e in
    let a = alike_timer (16 + i) cycle e (omega arith) in
    let rises = risen_at lines i t h (omega (arith, a.active, fits)) in
    record {
      lines = refl;
      active = a.active;
      pending = bit_at_or t.pending (risen lines t) (16 + i)
          ∙ ap₂ max a.pending (rises
          ∙ ap₂ (λ (l c : ℕ). min (bit_at lines i) (1 - min (bit_at l i) (bit_at c (16 + i)))) a.lines a.active);
    }

-- ---- through the handler

record Silent (i : ℕ) (e : State) : Type 0 where
  fits : e.active < 2 ^ 64
  lines : bit_at e.lines i ≡ 1
  active : bit_at e.active (16 + i) ≡ 1
  pending : bit_at e.pending (16 + i) ≡ 0

by_values : (p now before active : ℕ) → p ≡ 0 → before ≡ 1 → active ≡ 1 → pended_by p now before active ≡ 0
by_values p now before active hp hb ha = omega arith

silent_cycle : (lines i cycle : ℕ) (e : State) → i < 32 → has_bit lines i ≡ true → Silent i e → Silent i (after_cycle lines cycle e)
silent_cycle lines i cycle e h high s =
    let f = ended_cycle lines i cycle e h s.fits in
    record {
      fits = omega (arith, f.active, s.fits);
      lines = ap (λ l. bit_at l i) f.lines ∙ one_of (bit_at lines i) high;
      active = ap (λ a. bit_at a (16 + i)) f.active ∙ s.active;
      pending = f.pending ∙ by_values (bit_at e.pending (16 + i)) (bit_at lines i) (bit_at e.lines i) (bit_at e.active (16 + i)) s.pending s.lines s.active;
    }

silent_cycles : (i cycle : ℕ) (held : List ℕ) (e : State) → i < 32 → IsHeld i held → Silent i e → Silent i (after_cycles cycle held e)
silent_cycles i cycle [] e h held s = s
silent_cycles i cycle (lines ∷ more) e h held s =
    silent_cycles i (cycle + 1) more (after_cycle lines cycle e) h held.1 (silent_cycle lines i cycle e h held.0 s)

-- ---- taken, and left

is_one_number : (i : ℕ) → i < 32 → is_number (16 + i) ≡ true
is_one_number i h = lt-ltb (16 + i) 48 (omega arith)

entered_as : (i : ℕ) (e : State) → i < 32 → entered (16 + i) e ≡ record e { pending = minus e.pending (2 ^ (16 + i)); active = bit_or e.active (2 ^ (16 + i)) }
entered_as i e h =
    ap (λ b. cond b (record e { pending = minus e.pending (2 ^ (16 + i)); active = bit_or e.active (2 ^ (16 + i)) }) e) (is_one_number i h)

left_as : (i : ℕ) (e : State) → i < 32 → left (16 + i) e ≡ record e { active = minus e.active (2 ^ (16 + i)) }
left_as i e h = ap (λ b. cond b (record e { active = minus e.active (2 ^ (16 + i)) }) e) (is_one_number i h)

silent_entered : (i : ℕ) (e : State) → i < 32 → e.active < 2 ^ 64 → has_bit e.lines i ≡ true
    → Silent i (record e { pending = minus e.pending (2 ^ (16 + i)); active = bit_or e.active (2 ^ (16 + i)) })
silent_entered i e h fits high = record {
  fits = or_lt 64 e.active (2 ^ (16 + i)) fits (pow_fits (16 + i) (omega arith));
  lines = one_of (bit_at e.lines i) high;
  active = omega (arith, bit_at_or e.active (2 ^ (16 + i)) (16 + i), bit_at-pow_same (16 + i), bit_at-lt e.active (16 + i));
  pending = omega (arith, minus_at e.pending (2 ^ (16 + i)) (16 + i) (pow_fits (16 + i) (omega arith)) (omega arith), bit_at-pow_same (16 + i));
}

not_member : (k set : ℕ) → bit_at set k ≡ 0 → is_member k set ≡ false
not_member k set e = ap (λ x. is_number k && (x == 1)) e ∙ and_false (is_number k)
  where
    and_false : (b : Bool) → (b && false) ≡ false
    and_false true = refl
    and_false false = refl

member_by : (i set : ℕ) → i < 32 → is_member (16 + i) set ≡ has_bit set (16 + i)
member_by i set h = ap (λ b. b && has_bit set (16 + i)) (is_one_number i h)

by_last : (p now before active : ℕ) → p ≡ 0 → active ≡ 0 → now < 2 → pended_by p now before active ≡ now
by_last p now before active hp ha hn = omega arith

again_at : (i cycle last : ℕ) (t : State) → i < 32 → Silent i t → bit_at (after_cycle last cycle (left (16 + i) t)).pending (16 + i) ≡ bit_at last i
again_at i cycle last t h s =
    let u = record t { active = minus t.active (2 ^ (16 + i)) } in
    let f = ended_cycle last i cycle u h (minus_less t.active (2 ^ (16 + i)) s.fits) in
    let gone : bit_at (minus t.active (2 ^ (16 + i))) (16 + i) ≡ 0 = omega (arith, minus_at t.active (2 ^ (16 + i)) (16 + i) (pow_fits (16 + i) (omega arith)) (omega arith), bit_at-pow_same (16 + i)) in
    ap (λ v. bit_at (after_cycle last cycle v).pending (16 + i)) (left_as i t h)
    ∙ f.pending
    ∙ by_last (bit_at t.pending (16 + i)) (bit_at last i) (bit_at t.lines i) (bit_at (minus t.active (2 ^ (16 + i))) (16 + i)) s.pending gone (bit_at-lt last i)

by_high : (p now before active : ℕ) → p < 2 → now ≡ 1 → active ≡ 0 → pended_by p now before active ≡ 1
by_high p now before active hp hn ha = omega arith

-- a high line makes its interrupt pending where it is not active any more
pub pends_behind : (i cycle lines : ℕ) (e : State) → i < 32 → e.active < 2 ^ 64 → has_bit lines i ≡ true
    → is_member (16 + i) (after_cycle lines cycle (left (16 + i) e)).pending ≡ true
pends_behind i cycle lines e h fits high =
    let u = record e { active = minus e.active (2 ^ (16 + i)) } in
    let f = ended_cycle lines i cycle u h (minus_less e.active (2 ^ (16 + i)) fits) in
    let gone : bit_at (minus e.active (2 ^ (16 + i))) (16 + i) ≡ 0 = omega (arith, minus_at e.active (2 ^ (16 + i)) (16 + i) (pow_fits (16 + i) (omega arith)) (omega arith), bit_at-pow_same (16 + i)) in
    ap (λ v. is_member (16 + i) (after_cycle lines cycle v).pending) (left_as i e h)
    ∙ member_by i (after_cycle lines cycle u).pending h
    ∙ ap (λ x. x == 1) (f.pending ∙ by_high (bit_at e.pending (16 + i)) (bit_at lines i) (bit_at e.lines i) (bit_at (minus e.active (2 ^ (16 + i))) (16 + i)) (bit_at-lt e.pending (16 + i)) (one_of (bit_at lines i) high) gone)

pub a_held_line_pends_again : AHeldLinePendsAgain
a_held_line_pends_again i s cycle held last h fits high all =
    let e = record s { pending = minus s.pending (2 ^ (16 + i)); active = bit_or s.active (2 ^ (16 + i)) } in
    let q = silent_cycles i cycle held e h all (silent_entered i s h fits high) in
    let t = after_cycles cycle held e in
    let same = ap (after_cycles cycle held) (entered_as i s h) in
    record {
      silent = ap (λ v. is_member (16 + i) v.pending) same ∙ not_member (16 + i) t.pending q.pending;
      again = ap (λ v. is_member (16 + i) (after_cycle last (cycle + length held) (left (16 + i) v)).pending) same
          ∙ member_by i (after_cycle last (cycle + length held) (left (16 + i) t)).pending h
          ∙ ap (λ x. x == 1) (again_at i (cycle + length held) last t h q);
    }

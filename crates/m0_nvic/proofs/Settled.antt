-- Lines that have made pending what they can, and a timer whose count stays above 0.
use Rattle.std.proofs.Common.{◌≡◌, ◌∙◌, ℕ, zero, suc, ◌+◌, ◌-◌, ◌/◌, ◌%◌, ◌^◌, ◌<◌, ◌≤◌, ◌==◌, Bool, true, false, not, ◌&&◌, ◌||◌, cond, refl, sym, ap, true≢false, arith}
use Rattle.std.specs.Prelude.{bit_and, bit_or}
use Rattle.std.specs.Int.{bit_at}
use Rattle.std.proofs.lemmas.Bool.{eqb-true}
use Rattle.std.proofs.lemmas.Bool.Decides.{nat_tests}
use Rattle.std.proofs.lemmas.Nat.Bits.{bit_at_or, bit_at-lt, bit_at-zero, same_from_bits_below}
use Rattle.std.proofs.lemmas.Nat.{and_le_l, or_lt}
use Rattle.rp_base.specs.Word.{has_bit}
use Rattle.m0_nvic.specs.declared.systick.SysTick.{SysTick}
use Rattle.m0_nvic.specs.State.{State}
use Rattle.m0_nvic.specs.Numbers.{minus, of_interrupts}
use Rattle.m0_nvic.specs.Changes.{pended}
use Rattle.m0_nvic.specs.Cycle.{counts_in, count_of, timer_after, timer_pends, with_timer, after_timer, risen, after_lines, after_cycle, is_event}
use Rattle.m0_nvic.specs.Quiet.{after_all, counts_of, timer_down, counted_down, IsQuiet, is_settled}
use Rattle.m0_nvic.proofs.Held.{minus_at}

-- ---- lines

both : (a b : Bool) → (a && b) ≡ true → (a ≡ true) × (b ≡ true)
both true true h = (refl, refl)
both true false h = absurd (true≢false (sym h))
both false b h = absurd (true≢false (sym h))

pub none_left : (set p : ℕ) → set < 2 ^ 64 → p < 2 ^ 64 → minus set p ≡ 0 → bit_or p set ≡ p
none_left set p fits within none =
    same_from_bits_below 64 (bit_or p set) p (or_lt 64 p set within fits) within
    (λ i low. omega (arith, bit_at_or p set i, minus_at set p i within low, ap (λ m. bit_at m i) none, bit_at-zero i, bit_at-lt set i, bit_at-lt p i))

risen_less : (lines : ℕ) (s : State) → lines < 2 ^ 32 → risen lines s < 2 ^ 64
risen_less lines s h = omega (arith, and_le_l (of_interrupts lines) (2 ^ 64 - 1 - bit_and (of_interrupts s.lines) s.active), h)

record Settled (lines : ℕ) (s : State) : Type 0 where
  same : s.lines ≡ lines
  none : s.arrived ≡ false
  pending : bit_or s.pending (risen lines s) ≡ s.pending
  new : (minus (risen lines s) s.pending == 0) ≡ true

not_true : (b : Bool) → not b ≡ true → b ≡ false
not_true false h = refl
not_true true h = absurd (true≢false (sym h))

settled_by : (lines : ℕ) (s : State) → lines < 2 ^ 32 → s.pending < 2 ^ 64 → is_settled lines s ≡ true → Settled lines s
settled_by lines s fits within h =
    let first = both (s.lines == lines) _ h in
    let second = both (not s.arrived) _ first.1 in
    record {
      same = eqb-true s.lines lines first.0;
      none = not_true s.arrived second.0;
      pending = none_left (risen lines s) s.pending (risen_less lines s fits) within (eqb-true (minus (risen lines s) s.pending) 0 second.1);
      new = second.1;
    }

lines_settle : (lines : ℕ) (s : State) (t : SysTick) → Settled lines s → after_lines lines (with_timer t s) ≡ with_timer t s
lines_settle lines s t h =
    ap (λ l. record s { pending = bit_or s.pending (risen lines s); arrived = s.arrived || not (minus (risen lines s) s.pending == 0); lines = l; systick = t }) (sym h.same)
    ∙ (ap (λ p. record s { pending = p; arrived = s.arrived || not (minus (risen lines s) s.pending == 0); systick = t }) h.pending
    ∙ (ap (λ n. record s { arrived = s.arrived || not n; systick = t }) h.new
    ∙ ap (λ a. record s { arrived = a; systick = t }) (or_false s.arrived)))
  where
    or_false : (b : Bool) → (b || false) ≡ b
    or_false true = refl
    or_false false = refl

-- ---- the timer

ticks_more : (n : ℕ) → ((n + 1) % 125 == 0) ≡ true → (n + 1) / 125 ≡ n / 125 + 1
ticks_more n h = let e = eqb-true ((n + 1) % 125) 0 h in omega (arith, e)

not_zero : (m : ℕ) → (m == 0) ≡ false → 0 < m
not_zero m h = grind (arith, nat_tests)

ticks_same : (n : ℕ) → ((n + 1) % 125 == 0) ≡ false → (n + 1) / 125 ≡ n / 125
ticks_same n h = let e = not_zero ((n + 1) % 125) h in omega (arith, e)

-- a cycle has one count more, or none
counts_more : (e c : Bool) (first k : ℕ) → (e && (c || ((first + k + 1) % 125 == 0))) ≡ true
    → cond e (cond c (suc k) ((first + suc k) / 125 - first / 125)) 0 ≡ cond e (cond c k ((first + k) / 125 - first / 125)) 0 + 1
counts_more true true first k h = omega arith
counts_more true false first k h = omega (arith, ticks_more (first + k) h)
counts_more false c first k h = absurd (true≢false (sym h))

counts_same : (e c : Bool) (first k : ℕ) → (e && (c || ((first + k + 1) % 125 == 0))) ≡ false
    → cond e (cond c (suc k) ((first + suc k) / 125 - first / 125)) 0 ≡ cond e (cond c k ((first + k) / 125 - first / 125)) 0
counts_same false c first k h = refl
counts_same true true first k h = absurd (true≢false h)
counts_same true false first k h = omega (arith, ticks_same (first + k) h)

is_not : (m c : ℕ) → c < m → (m == c) ≡ false
is_not m c h = grind (arith, nat_tests)

count_falls : (t : SysTick) (k m : ℕ) → m ≡ k + 1 → m ≤ t.current - 1 → count_of (record t { current = t.current - k }) ≡ record t { current = t.current - m }
count_falls t k m e le =
    let zero_not : (t.current - k == 0) ≡ false = is_not (t.current - k) 0 (omega (arith, e, le)) in
    let one_not : (t.current - k == 1) ≡ false = is_not (t.current - k) 1 (omega (arith, e, le)) in
    let f : t.current - k - 1 ≡ t.current - m = omega (arith, e) in
    rw (zero_not, one_not, f) refl

timer_falls_by : (b : Bool) (t : SysTick) (first k : ℕ) → counts_in (first + k) t ≡ b → counts_of first (suc k) t ≤ t.current - 1
    → timer_after (first + k) (timer_down first k t) ≡ timer_down first (suc k) t
timer_falls_by true t first k e le =
    ap (λ b. cond b (count_of (timer_down first k t)) (timer_down first k t)) e
    ∙ count_falls t (counts_of first k t) (counts_of first (suc k) t) (counts_more t.enable t.core_clock first k e) le
timer_falls_by false t first k e le =
    ap (λ b. cond b (count_of (timer_down first k t)) (timer_down first k t)) e
    ∙ ap (λ (c : ℕ). record t { current = t.current - c }) (sym (counts_same t.enable t.core_clock first k e))

pends_by : (b : Bool) (t : SysTick) (first k : ℕ) → counts_in (first + k) t ≡ b → counts_of first (suc k) t ≤ t.current - 1
    → timer_pends (first + k) (timer_down first k t) ≡ false
pends_by true t first k e le =
    let m = counts_of first k t in
    let one_not : (t.current - m == 1) ≡ false = is_not (t.current - m) 1 (omega (arith, counts_more t.enable t.core_clock first k e, le)) in
    ap (λ b. b && ((t.current - m == 1) && t.interrupt)) e ∙ ap (λ b. b && t.interrupt) one_not
pends_by false t first k e le = ap (λ b. b && ((t.current - counts_of first k t == 1) && t.interrupt)) e

timer_ends : (s : State) (first k : ℕ) → counts_of first (suc k) s.systick ≤ s.systick.current - 1
    → after_timer (first + k) (counted_down first k s) ≡ counted_down first (suc k) s
timer_ends s first k le =
    let t = with_timer (timer_after (first + k) (timer_down first k s.systick)) s in
    ap (λ b. cond b (pended 15 t) t) (pends_by (counts_in (first + k) s.systick) s.systick first k refl le)
    ∙ ap (λ u. with_timer u s) (timer_falls_by (counts_in (first + k) s.systick) s.systick first k refl le)

-- ---- cycles

counted_none : (first : ℕ) (s : State) → s ≡ counted_down first 0 s
counted_none first s = ap (λ (c : ℕ). record s { systick = record s.systick { current = c } }) (by s.systick.enable s.systick.core_clock s.systick.current)
  where
    by : (e c : Bool) (n : ℕ) → n ≡ n - cond e (cond c 0 ((first + 0) / 125 - first / 125)) 0
    by true true n = omega arith
    by true false n = omega arith
    by false c n = omega arith

lines_end : (lines : ℕ) (s : State) (first k : ℕ) → Settled lines s → counts_of first (suc k) s.systick ≤ s.systick.current - 1
    → after_lines lines (after_timer (first + k) (counted_down first k s)) ≡ counted_down first (suc k) s
lines_end lines s first k h le =
    ap (after_lines lines) (timer_ends s first k le) ∙ lines_settle lines s (timer_down first (suc k) s.systick) h

one_cycle : (lines : ℕ) (s : State) (first k : ℕ) → Settled lines s → counts_of first (suc k) s.systick ≤ s.systick.current - 1
    → after_cycle lines (first + k) (counted_down first k s) ≡ counted_down first (suc k) s
one_cycle lines s first k h le =
    ap (λ (e : State). record e { arrived = false }) (lines_end lines s first k h le)
    ∙ ap (λ (a : Bool). record s { arrived = a; systick = timer_down first (suc k) s.systick }) (sym h.none)

and_false : (b : Bool) → (b && false) ≡ false
and_false true = refl
and_false false = refl

no_event : (lines : ℕ) (s : State) (first k : ℕ) → Settled lines s → counts_of first (suc k) s.systick ≤ s.systick.current - 1
    → is_event lines (first + k) (counted_down first k s) ≡ false
no_event lines s first k h le =
    ap (λ e. has_bit s.scr 4 && e.arrived) (lines_end lines s first k h le)
    ∙ ap (λ a. has_bit s.scr 4 && a) h.none ∙ and_false (has_bit s.scr 4)

abbrev Left : ℕ → ℕ → SysTick → Type 0
Left first n t = (k : ℕ) → k ≤ n → counts_of first k t ≤ t.current - 1

states : (lines : ℕ) (s : State) (first n : ℕ) → Settled lines s → Left first n s.systick
    → (k : ℕ) → k ≤ n → after_all lines first k s ≡ counted_down first k s
states lines s first n h left zero le = counted_none first s
states lines s first n h left (suc k) le =
    ap (after_cycle lines (first + k)) (states lines s first n h left k (omega (arith, le))) ∙ one_cycle lines s first k h (left (suc k) le)

pub settled_quiet : (lines : ℕ) (s : State) (first n : ℕ) → lines < 2 ^ 32 → s.pending < 2 ^ 64 → is_settled lines s ≡ true
    → ((k : ℕ) → k ≤ n → counts_of first k s.systick ≤ s.systick.current - 1) → IsQuiet lines s first n
settled_quiet lines s first n fits within settled left =
    let h = settled_by lines s fits within settled in
    record {
      states = states lines s first n h left;
      silent = λ k lt. ap (is_event lines (first + k)) (states lines s first n h left k (omega (arith, lt)))
          ∙ no_event lines s first k h (left (suc k) (omega (arith, lt)));
    }

pub quiet_none : (lines : ℕ) (s : State) (first : ℕ) → IsQuiet lines s first 0
quiet_none lines s first = record {
  states = λ k le. none k le;
  silent = λ k lt. absurd (omega (arith, lt));
}
  where
    none : (k : ℕ) → k ≤ 0 → after_all lines first k s ≡ counted_down first k s
    none zero le = counted_none first s
    none (suc k) le = absurd (omega (arith, le))

-- one cycle more
pub all_more : (lines first n m : ℕ) (s : State) → m ≡ n + 1 → after_all lines first m s ≡ after_cycle lines (first + n) (after_all lines first n s)
all_more lines first n zero s e = absurd (omega (arith, e))
all_more lines first n (suc m) s e = let same : m ≡ n = omega (arith, e) in rw same refl

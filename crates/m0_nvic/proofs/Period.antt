-- The system timer, count after count.
use Rattle.std.proofs.Common.{◌≡◌, ℕ, zero, suc, ◌+◌, ◌-◌, ◌≤◌, ◌==◌, ◌⊎◌, inl, inr, Bool, true, false, ◌&&◌, ◌||◌, cond, refl, sym, ap, ◌∙◌, arith}
use Rattle.std.proofs.lemmas.Bool.{eqb-true}
use Rattle.std.proofs.lemmas.Bool.Decides.{nat_tests}
use Rattle.m0_nvic.specs.declared.systick.SysTick.{SysTick}
use Rattle.m0_nvic.specs.Cycle.{counts_in, count_of, timer_after}
use Rattle.m0_nvic.specs.TimerLaws.{timer_at, TheTimerHasItsPeriod}

abbrev count_by : Bool → Bool → SysTick → SysTick
count_by a b t = cond a (record t { current = t.reload }) (cond b (record t { current = 0; counted = true }) (record t { current = t.current - 1 }))

by_current : (a b : Bool) (t : SysTick) → (t.current == 1) ≡ b → (count_by a b t).current ≡ cond a t.reload (t.current - 1)
by_current true b t h = refl
by_current false true t h = let e = eqb-true t.current 1 h in omega (arith, e)
by_current false false t h = refl

by_flag : (b : Bool) (t : SysTick) → (count_by false b t).counted ≡ (b || t.counted)
by_flag true t = refl
by_flag false t = refl

keeps : {A : Type 0} (f : SysTick → A) → ((t : SysTick) (c : ℕ) → f (record t { current = c }) ≡ f t) →
    ((t : SysTick) (c : ℕ) → f (record t { current = c; counted = true }) ≡ f t) → (a b : Bool) (t : SysTick) → f (count_by a b t) ≡ f t
keeps f h i true b t = h t t.reload
keeps f h i false true t = i t 0
keeps f h i false false t = h t (t.current - 1)

-- what a count leaves of a timer that counts
record Counts (n m : ℕ) (t : SysTick) (interrupt : Bool) : Type 0 where
  enabled : t.enable ≡ true
  clocked : t.core_clock ≡ true
  reload : t.reload ≡ n
  asks : t.interrupt ≡ interrupt
  current : t.current ≡ m

counting : (cycle : ℕ) (t : SysTick) → t.enable ≡ true → t.core_clock ≡ true → counts_in cycle t ≡ true
counting cycle t e c = rw (e, c) refl

counted : (cycle : ℕ) (t : SysTick) → t.enable ≡ true → t.core_clock ≡ true → timer_after cycle t ≡ count_by (t.current == 0) (t.current == 1) t
counted cycle t e c = ap (λ b. cond b (count_of t) t) (counting cycle t e c)

not_zero : (m : ℕ) → 1 ≤ m → (m == 0) ≡ false
not_zero m h = grind (arith, nat_tests)

next_count : (cycle n m : ℕ) (t : SysTick) (i : Bool) → Counts n m t i → (a : Bool) → (t.current == 0) ≡ a →
    Counts n (cond a n (m - 1)) (timer_after cycle t) i
next_count cycle n m t i h a z =
    let is = counted cycle t h.enabled h.clocked in
    let x = t.current == 0 in
    let y = t.current == 1 in
    record {
      enabled = ap (λ u. u.enable) is ∙ keeps (λ u. u.enable) (λ u c. refl) (λ u c. refl) x y t ∙ h.enabled;
      clocked = ap (λ u. u.core_clock) is ∙ keeps (λ u. u.core_clock) (λ u c. refl) (λ u c. refl) x y t ∙ h.clocked;
      reload = ap (λ u. u.reload) is ∙ keeps (λ u. u.reload) (λ u c. refl) (λ u c. refl) x y t ∙ h.reload;
      asks = ap (λ u. u.interrupt) is ∙ keeps (λ u. u.interrupt) (λ u c. refl) (λ u c. refl) x y t ∙ h.asks;
      current = ap (λ u. u.current) is ∙ by_current x y t refl ∙ ap (λ b. cond b t.reload (t.current - 1)) z
          ∙ ap (λ r. cond a r (t.current - 1)) h.reload ∙ ap (λ c. cond a n (c - 1)) h.current;
    }

at_most : (cycle n k : ℕ) (t : SysTick) (i : Bool) → Counts n n t i → k ≤ n → Counts n (n - k) (timer_at cycle k t) i
at_most cycle n zero t i h low = record { enabled = h.enabled; clocked = h.clocked; reload = h.reload; asks = h.asks; current = h.current ∙ omega arith }
at_most cycle n (suc k) t i h low =
    let before = at_most cycle n k t i h (omega arith) in
    let some : ((timer_at cycle k t).current == 0) ≡ false = ap (λ c. c == 0) before.current ∙ not_zero (n - k) (omega arith) in
    let after = next_count (cycle + k) n (n - k) (timer_at cycle k t) i before false some in
    let down : (n - k) - 1 ≡ n - suc k = omega arith in
    record { enabled = after.enabled; clocked = after.clocked; reload = after.reload; asks = after.asks; current = after.current ∙ down }

is_one : (n k : ℕ) → k ≤ n → (n - k == 1) ≡ (k + 1 == n)
is_one n k low = grind (arith, nat_tests)

pends_at : (c : Bool) (one other interrupt : Bool) → c ≡ true → one ≡ other → (c && (one && interrupt)) ≡ (other && interrupt)
pends_at c one other interrupt h i = rw (h, i) refl

flag_at : (cycle n k : ℕ) (t : SysTick) (i : Bool) → Counts n (n - k) t i → k ≤ n → 1 ≤ n - k → (timer_after cycle t).counted ≡ (k + 1 == n || t.counted)
flag_at cycle n k t i h low some =
    let zero_no : (t.current == 0) ≡ false = ap (λ c. c == 0) h.current ∙ not_zero (n - k) some in
    ap (λ u. u.counted) (counted cycle t h.enabled h.clocked) ∙ ap (λ a. (count_by a (t.current == 1) t).counted) zero_no
    ∙ by_flag (t.current == 1) t ∙ ap (λ c. c == 1 || t.counted) h.current ∙ ap (λ b. b || t.counted) (is_one n k low)

-- from 0 the reload value follows, and no flag
flag_reload : (cycle n k : ℕ) (t : SysTick) (i : Bool) → Counts n (n - k) t i → k ≤ n → n - k ≡ 0 → (timer_after cycle t).counted ≡ (k + 1 == n || t.counted)
flag_reload cycle n k t i h low none =
    let zero_yes : (t.current == 0) ≡ true = ap (λ c. c == 0) (h.current ∙ none) in
    let other : (k + 1 == n) ≡ false = grind (arith, nat_tests) in
    ap (λ u. u.counted) (counted cycle t h.enabled h.clocked) ∙ ap (λ a. (count_by a (t.current == 1) t).counted) zero_yes
    ∙ ap (λ b. b || t.counted) (sym other)

some_or_none : (m : ℕ) → (m ≡ 0) ⊎ (1 ≤ m)
some_or_none m = grind arith

pub period : TheTimerHasItsPeriod
period cycle n t few h =
    let start : Counts n n t t.interrupt = record { enabled = h.enabled; clocked = h.clocked; reload = h.reload; asks = refl; current = h.full } in
    let at = λ (k : ℕ) (low : k ≤ n). at_most cycle n k t t.interrupt start low in
    let last = at n (omega arith) in
    let gone : n - n ≡ 0 = omega arith in
    let none : ((timer_at cycle n t).current == 0) ≡ true = ap (λ c. c == 0) (last.current ∙ gone) in
    let next = next_count (cycle + n) n (n - n) (timer_at cycle n t) t.interrupt last true none in
    record {
      down = λ k low. (at k low).current;
      again = record { enabled = next.enabled; clocked = next.clocked; reload = next.reload; full = next.current };
      pends = λ k low. pends_at (counts_in (cycle + k) (timer_at cycle k t)) ((timer_at cycle k t).current == 1) (k + 1 == n) (timer_at cycle k t).interrupt
          (counting (cycle + k) (timer_at cycle k t) (at k low).enabled (at k low).clocked)
          (ap (λ c. c == 1) (at k low).current ∙ is_one n k low)
          ∙ ap (λ i. k + 1 == n && i) (at k low).asks;
      flag = λ k low. elim (some_or_none (n - k)) [
        | inl none ↦ flag_reload (cycle + k) n k (timer_at cycle k t) t.interrupt (at k low) low none
        | inr some ↦ flag_at (cycle + k) n k (timer_at cycle k t) t.interrupt (at k low) low some
      ];
    }

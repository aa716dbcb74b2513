-- Cycles in which every interrupt line is low.
use Rattle.std.proofs.Common.{◌≡◌, ℕ, ◌-◌, Bool, true, false, List, [], ◌∷◌, refl, ap, ◌∙◌}
use Rattle.std.specs.Prelude.{◌&&◌, ◌==◌, bit_and, bit_or, Option, Some, None, if◌then◌else◌}
use Rattle.std.specs.Int.Bits.{or_zero_r}
use Rattle.m0_nvic.specs.declared.systick.SysTick.{SysTick}
use Rattle.m0_nvic.specs.State.{State as Exceptions}
use Rattle.m0_nvic.specs.Priority.{best_of, least_of, least, nearer}
use Rattle.m0_nvic.specs.Numbers.{members}
use Rattle.m0_nvic.specs.Cycle.{counts_in, count_of, timer_after, timer_pends, with_timer, after_timer, after_lines, after_cycle, with_none_arrived, risen}
use Rattle.core_runs.specs.Runs.{ASilentCycleStaysSilent}

and_false : (a b : Bool) → b ≡ false → (a && b) ≡ false
and_false true b e = e
and_false false b e = refl

-- the timer's count asks for no exception
unpended : (cycle : ℕ) (t : SysTick) → t.interrupt ≡ false → timer_pends cycle t ≡ false
unpended cycle t e = and_false (counts_in cycle t) _ (and_false (t.current == 1) t.interrupt e)

still : (cycle : ℕ) (e : Exceptions) → e.systick.interrupt ≡ false → after_timer cycle e ≡ with_timer (timer_after cycle e.systick) e
still cycle e h = rw (unpended cycle e.systick h) refl

count_untimed : (t : SysTick) → t.interrupt ≡ false → (count_of t).interrupt ≡ false
count_untimed t h = go (t.current == 0) (t.current == 1)
  where
    go : (a b : Bool) → (if a then record t { current = t.reload } else if b then record t { current = 0; counted = true } else record t { current = t.current - 1 }).interrupt ≡ false
    go true b = h
    go false true = h
    go false false = h

timer_untimed : (cycle : ℕ) (t : SysTick) → t.interrupt ≡ false → (timer_after cycle t).interrupt ≡ false
timer_untimed cycle t h = go (counts_in cycle t)
  where
    go : (b : Bool) → (if b then count_of t else t).interrupt ≡ false
    go true = count_untimed t h
    go false = h

-- the best exception does not depend on the timer and the lines
least_same : (e : Exceptions) (t : SysTick) (p l : ℕ) (a : Bool) (ns : List ℕ) → least (record e { pending = p; systick = t; lines = l; arrived = a }) ns ≡ least e ns
least_same e t p l a [] = refl
least_same e t p l a (n ∷ ns) =
    let f : Exceptions = record e { pending = p; systick = t; lines = l; arrived = a } in
    ap (nearer f n) (least_same e t p l a ns) ∙ go (least e ns)
  where
    go : (o : Option ℕ) → nearer (record e { pending = p; systick = t; lines = l; arrived = a }) n o ≡ nearer e n o
    go None = refl
    go (Some m) = refl

best_same : (e : Exceptions) (t : SysTick) (p l : ℕ) (a : Bool) → p ≡ e.pending → best_of (record e { pending = p; systick = t; lines = l; arrived = a }) ≡ best_of e
unfolding least_of
best_same e t p l a h =
    ap (λ q. least (record e { pending = p; systick = t; lines = l; arrived = a }) (members (bit_and q e.enabled))) h
    ∙ least_same e t p l a (members (bit_and e.pending e.enabled))

best_after : (cycle : ℕ) (e : Exceptions) → e.systick.interrupt ≡ false → best_of (after_cycle 0 cycle e) ≡ best_of e
best_after cycle e h =
    ap (λ (f : Exceptions). best_of (with_none_arrived (after_lines 0 f))) (still cycle e h)
    ∙ best_same e (timer_after cycle e.systick) (bit_or e.pending 0) 0 false (or_zero_r e.pending)

pub a_silent_cycle_stays_silent : ASilentCycleStaysSilent
a_silent_cycle_stays_silent e cycle s =
    let same = still cycle e s.untimed in
    let after = after_cycle 0 cycle e in
    let pending : after.pending ≡ e.pending = ap (λ (f : Exceptions). bit_or f.pending (risen 0 f)) same ∙ or_zero_r e.pending in
    let active : after.active ≡ e.active = ap (λ (f : Exceptions). f.active) same in
    let enabled : after.enabled ≡ e.enabled = ap (λ (f : Exceptions). f.enabled) same in
    let priorities : after.priorities ≡ e.priorities = ap (λ (f : Exceptions). f.priorities) same in
    let timer : after.systick ≡ timer_after cycle e.systick = ap (λ (f : Exceptions). f.systick) same in
    record {
      silent = record {
        none = best_after cycle e s.untimed ∙ s.none;
        untimed = ap (λ (t : SysTick). t.interrupt) timer ∙ timer_untimed cycle e.systick s.untimed;
      };
      pending = pending;
      active = active;
      enabled = enabled;
      priorities = priorities;
    }

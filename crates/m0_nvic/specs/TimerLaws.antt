-- The period of the system timer (ARMv6-M Architecture Reference Manual, B3.3.1: a reload value of n gives a period of n + 1 counts).
use Rattle.std.specs.Prelude.{◌≡◌, ℕ, zero, suc, ◌+◌, ◌-◌, ◌≤◌, true, ◌&&◌, ◌||◌, ◌==◌}
use Rattle.m0_nvic.specs.declared.systick.SysTick.{SysTick}
use Rattle.m0_nvic.specs.Cycle.{timer_after, timer_pends}

-- the timer so many cycles later, the first of that number
abbrev pub timer_at : ℕ → ℕ → SysTick → SysTick
timer_at cycle zero t = t
timer_at cycle (suc k) t = timer_after (cycle + k) (timer_at cycle k t)

-- ENABLE and CLKSOURCE are set, and the count is the reload value
pub record IsReloaded (t : SysTick) (n : ℕ) : Type 0 where
  pub enabled : t.enable ≡ true
  pub clocked : t.core_clock ≡ true
  pub reload : t.reload ≡ n
  pub full : t.current ≡ n

-- it counts down, one a cycle of the core's clock, to 0; the next count is the reload value again, so the period is n + 1 cycles.
-- The count to 0 alone asks for the exception where TICKINT is set, and sets COUNTFLAG
pub record HasPeriod (cycle n : ℕ) (t : SysTick) : Type 0 where
  pub down : (k : ℕ) → k ≤ n → (timer_at cycle k t).current ≡ n - k
  pub again : IsReloaded (timer_at cycle (suc n) t) n
  pub pends : (k : ℕ) → k ≤ n → timer_pends (cycle + k) (timer_at cycle k t) ≡ (k + 1 == n && t.interrupt)
  pub flag : (k : ℕ) → k ≤ n → (timer_at cycle (suc k) t).counted ≡ (k + 1 == n || (timer_at cycle k t).counted)

abbrev pub TheTimerHasItsPeriod : Type 0
TheTimerHasItsPeriod = (cycle n : ℕ) (t : SysTick) → 1 ≤ n → IsReloaded t n → HasPeriod cycle n t

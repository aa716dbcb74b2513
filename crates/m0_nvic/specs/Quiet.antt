-- Cycles in which the exceptions are quiet: nothing of them moves but the count of the system timer (ARMv6-M Architecture Reference Manual,
-- B3.3, SysTick, and B3.4.1, level-sensitive and pulse interrupts).
use Rattle.std.specs.Prelude.{◌≡◌, ℕ, zero, suc, ◌+◌, ◌-◌, ◌/◌, ◌<◌, ◌≤◌, Bool, false, not, ◌&&◌, ◌==◌, if◌then◌else◌}
use Rattle.m0_nvic.specs.declared.systick.SysTick.{SysTick}
use Rattle.m0_nvic.specs.State.{State}
use Rattle.m0_nvic.specs.Numbers.{minus}
use Rattle.m0_nvic.specs.Cycle.{with_timer, risen, after_cycle, is_event}

-- so many cycles from a first one on, while the interrupt lines stay as they are
abbrev pub after_all : ℕ → ℕ → ℕ → State → State
after_all lines first zero s = s
after_all lines first (suc n) s = after_cycle lines (first + n) (after_all lines first n s)

-- in how many of them the timer counts
abbrev pub counts_of : ℕ → ℕ → SysTick → ℕ
counts_of first n t = if t.enable then (if t.core_clock then n else (first + n) / 125 - first / 125) else 0

-- its count falls by as many, and nothing else changes
abbrev pub timer_down : ℕ → ℕ → SysTick → SysTick
timer_down first n t = record t { current = t.current - counts_of first n t }

abbrev pub counted_down : ℕ → ℕ → State → State
counted_down first n s = with_timer (timer_down first n s.systick) s

-- that is all that so many cycles leave, and in none of them an event comes
pub record IsQuiet (lines : ℕ) (s : State) (first n : ℕ) : Type 0 where
  pub states : (k : ℕ) → k ≤ n → after_all lines first k s ≡ counted_down first k s
  pub silent : (k : ℕ) → k < n → is_event lines (first + k) (after_all lines first k s) ≡ false

-- the lines were the same in the cycle before, and have made pending what they can
abbrev pub is_settled : ℕ → State → Bool
is_settled lines s = (s.lines == lines) && (not s.arrived && (minus (risen lines s) s.pending == 0))

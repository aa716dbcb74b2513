-- Cycles in which the timer is quiet (RP2040 Datasheet, 4.6.2, Counter, and 4.6.3, Alarms).
use Rattle.std.specs.Prelude.{◌≡◌, ℕ, ◌+◌, ◌-◌, ◌/◌, ◌≤◌}
use Rattle.rp_timer.specs.State.{State, lines_of}
use Rattle.rp_timer.specs.Step.{at_time, after_cycles}

-- in so many cycles from one on the interrupt lines stay
pub record IsQuiet (s : State) (cycle n : ℕ) : Type 0 where
  pub lines : (k : ℕ) → k ≤ n → lines_of (after_cycles cycle k s) ≡ lines_of s

-- the microseconds of so many cycles from one on have passed, and nothing else
abbrev pub passed : ℕ → ℕ → State → State
passed cycle n s = at_time (s.time + ((cycle + n) / 125 - cycle / 125)) s

-- The timer (RP2040 Datasheet, 4.6, Timer): a count of microseconds with four alarms. A set of alarms is a number whose bit n
-- is that of alarm n.
use Rattle.std.specs.Prelude.{ℕ, ◌/◌, ◌%◌, ◌^◌, Bool, false, List, replicate, bit_and, bit_or}

pub record State : Type 0 where
  -- the time, below 2 ^ 64
  pub time : ℕ
  -- TIMELW: the low word that the next write of TIMEHW sets
  pub low : ℕ
  -- TIMEHR: the high word that the last read of TIMELR latched
  pub high : ℕ
  -- ALARM0 to ALARM3, and those that are armed
  pub alarms : List ℕ
  pub armed : ℕ
  -- PAUSE and DBGPAUSE
  pub paused : Bool
  pub debug_pause : ℕ
  -- INTR, INTE and INTF
  pub raised : ℕ
  pub enabled : ℕ
  pub forced : ℕ

abbrev pub at_reset : State
at_reset =
    record {
      time = 0;
      low = 0;
      high = 0;
      alarms = replicate 4 0;
      armed = 0;
      paused = false;
      debug_pause = 0;
      raised = 0;
      enabled = 0;
      forced = 0;
    }

-- the two words of the time
abbrev pub low_of : ℕ → ℕ
low_of time = time % 2 ^ 32

abbrev pub high_of : ℕ → ℕ
high_of time = time / 2 ^ 32 % 2 ^ 32

-- INTS: the interrupt lines
abbrev pub lines_of : State → ℕ
lines_of s = bit_or (bit_and s.raised s.enabled) s.forced

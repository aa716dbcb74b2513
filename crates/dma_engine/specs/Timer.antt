-- The pacing timers, which give a fraction X / Y of the cycles to their channels (RP2040 Datasheet, 2.5.3.2 and 2.5.7,
-- TIMER0).
use Rattle.std.specs.Prelude.{ℕ, ◌+◌, ◌-◌, Bool, false, not, ◌&&◌, ◌==◌, nat_lt, nat_le, min, if◌then◌else◌, List, map, slice_index_or}
use Rattle.dma_engine.specs.declared.channel.Channel.{Channel}
use Rattle.dma_engine.specs.declared.timer.PacingTimer.{PacingTimer}
use Rattle.dma_engine.specs.Control.{treq_of}
use Rattle.dma_engine.specs.Channel.{changed, in_turn}
use Rattle.dma_engine.specs.Requests.{Pace, pace_of}
use Rattle.dma_engine.specs.Requests.Pace.{Timer}
use Rattle.dma_engine.specs.State.{State, channel_at}

-- a timer with X or Y 0 stands still
abbrev pub runs : PacingTimer → Bool
runs t = not (t.x == 0) && not (t.y == 0)

-- what a cycle adds, and what the sum comes to
abbrev pub step_of : PacingTimer → ℕ
step_of t = min t.x t.y

abbrev pub sum_of : PacingTimer → ℕ
sum_of t = t.accumulator + step_of t

-- the sum arrives at Y: the channels of the timer get a credit
abbrev pub gives : PacingTimer → Bool
gives t = runs t && nat_le t.y (sum_of t)

abbrev pub accumulated : PacingTimer → ℕ
accumulated t = if nat_le t.y (sum_of t) then sum_of t - t.y else sum_of t

abbrev pub stepped : PacingTimer → PacingTimer
stepped t = if runs t then record t { accumulator = accumulated t } else t

-- which timers give a credit
abbrev pub given_by : List PacingTimer → List Bool
given_by timers = map gives timers

abbrev pub is_given : List Bool → Pace → Bool
is_given given (Timer k) = slice_index_or given k false
is_given given _ = false

-- the channels that were busy at the start of the cycle get the credit of their timer
abbrev pub gets_credit : State → ℕ → Bool
gets_credit s n = (channel_at n s).busy && is_given (given_by s.timers) (pace_of (treq_of (channel_at n s)))

-- a channel has at most 63
abbrev pub more_credits : ℕ → ℕ
more_credits credits = if nat_lt credits 63 then credits + 1 else 63

abbrev pub credited : Channel → Channel
credited c = record c { credits = more_credits c.credits }

abbrev pub with_credit : ℕ → State → State
with_credit n e = changed credited n e

abbrev pub with_stepped_timers : State → State
with_stepped_timers e = record e { timers = map stepped e.timers }

-- the timers step, and the channels that pass the test get a credit
unfoldable pub after_timers : (ℕ → Bool) → State → State
after_timers test e = in_turn test with_credit 12 (with_stepped_timers e)

-- One cycle of the timer (RP2040 Datasheet, 4.6.2, Counter, 4.6.3, Alarms, and 4.7.2, Tick Generation).
use Rattle.std.specs.Prelude.{ℕ, zero, suc, ◌+◌, ◌*◌, ◌%◌, ◌^◌, Bool, not, ◌==◌, ◌&&◌, if◌then◌else◌, bit_or, slice_index}
use Rattle.rp_base.specs.Word.{has_bit, bit_number}
use Rattle.rp_timer.specs.State.{State, low_of}
use Rattle.rp_base.specs.Word.{minus}

-- a microsecond ends with a cycle whose number plus 1 is a multiple of 125
abbrev pub is_tick : ℕ → Bool
is_tick cycle = (cycle + 1) % 125 == 0

-- alarm n is armed, and equals the low word of the time
abbrev pub is_due : ℕ → State → Bool
is_due n s = has_bit s.armed n && slice_index s.alarms n == low_of s.time

-- the set of the alarms that are due
abbrev pub due_of : State → ℕ
due_of s =
    bit_number (is_due 0 s) + bit_number (is_due 1 s) * 2 + bit_number (is_due 2 s) * 4 + bit_number (is_due 3 s) * 8

-- an alarm that is due sets its interrupt, and is armed no more
abbrev pub alarmed : State → State
alarmed s = record s { raised = bit_or s.raised (due_of s); armed = minus s.armed (due_of s) }

-- another time
abbrev pub at_time : ℕ → State → State
at_time time s = record s { time = time % 2 ^ 64 }

-- the time rises by one, and the alarms are compared with the new low word
abbrev pub risen : State → State
risen s = alarmed (at_time (s.time + 1) s)

abbrev pub after_step : ℕ → State → State
after_step cycle s = if is_tick cycle && not s.paused then risen s else s

-- so many cycles from a first one on
abbrev pub after_cycles : ℕ → ℕ → State → State
after_cycles first zero s = s
after_cycles first (suc n) s = after_step (first + n) (after_cycles first n s)

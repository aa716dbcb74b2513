-- Laws of the timer: what its cycles come to.
use Rattle.std.specs.Prelude.{◌≡◌, ℕ, zero, suc, ◌+◌, ◌-◌, ◌*◌, ◌/◌, ◌%◌, ◌^◌, ◌<◌, Bool, true, false, not, ◌&&◌, ◌||◌, ◌==◌, Option, Some, None, slice_index}
use Rattle.rp_base.specs.Word.{has_bit}
use Rattle.rp_timer.specs.State.{State, low_of, high_of}
use Rattle.rp_timer.specs.Words.{word_of, effect_of, offset_of}
use Rattle.rp_timer.specs.Step.{is_tick, risen, after_step, after_cycles}

-- ---- the time

-- a timer that is not paused counts the microseconds that end, of 125 cycles each
abbrev pub TimeCountsMicroseconds : Type 0
TimeCountsMicroseconds =
    (s : State) (first n : ℕ)
    → s.paused ≡ false
    → s.time < 2 ^ 64
    → (after_cycles first n s).time ≡ (s.time + ((first + n) / 125 - first / 125)) % 2 ^ 64

-- a cycle in which TIMELR is read: the low word is that of the state at its start, and the high word is latched after the step
abbrev pub after_low_read : ℕ → State → State
after_low_read cycle s = effect_of (offset_of "TIMELR") None (after_step cycle s)

-- what TIMEHR reads as so many cycles after the one in which TIMELR was read
abbrev pub high_after : ℕ → ℕ → State → Option ℕ
high_after cycle n s = word_of (offset_of "TIMEHR") (after_cycles (cycle + 1) n (after_low_read cycle s))

-- the low word comes to its end in a cycle, and the high word rises
abbrev pub carries : ℕ → State → Bool
carries cycle s = (is_tick cycle && not s.paused) && low_of s.time == 2 ^ 32 - 1

-- TIMELR, and TIMEHR any number of cycles after it, are the two words of one time
pub record ReadsAsOne (cycle n : ℕ) (s : State) : Type 0 where
  pub low : word_of (offset_of "TIMELR") s ≡ Some (low_of s.time)
  pub high : high_after cycle n s ≡ Some (high_of s.time)
  pub whole : high_of s.time * 2 ^ 32 + low_of s.time ≡ s.time

abbrev pub TheTimeReadsAsOne : Type 0
TheTimeReadsAsOne =
    (s : State) (cycle n : ℕ) → s.time < 2 ^ 64 → carries cycle s ≡ false → ReadsAsOne cycle n s

-- a read of TIMELR in the cycle of a carry: the low word is the last one, and the high word the next one
pub record ReadsTorn (cycle n : ℕ) (s : State) : Type 0 where
  pub low : word_of (offset_of "TIMELR") s ≡ Some (2 ^ 32 - 1)
  pub high : high_after cycle n s ≡ Some ((high_of s.time + 1) % 2 ^ 32)

abbrev pub ACarryTearsTheRead : Type 0
ACarryTearsTheRead = (s : State) (cycle n : ℕ) → carries cycle s ≡ true → ReadsTorn cycle n s

-- ---- the alarms

-- so many times the time rises
abbrev pub after_rises : ℕ → State → State
after_rises zero s = s
after_rises (suc k) s = risen (after_rises k s)

-- one of so many next times has this low word
abbrev pub passes : ℕ → ℕ → ℕ → Bool
passes time word zero = false
passes time word (suc k) = passes time word k || word == low_of (time + (k + 1))

-- an armed alarm sets its interrupt when the time passes its word, and is armed until then
pub record GoesOff (s after : State) (n k : ℕ) : Type 0 where
  pub raised : has_bit after.raised n ≡ passes s.time (slice_index s.alarms n) k
  pub armed : has_bit after.armed n ≡ not (passes s.time (slice_index s.alarms n) k)

abbrev pub AnAlarmGoesOffOnce : Type 0
AnAlarmGoesOffOnce =
    (s : State) (n k : ℕ)
    → n < 4
    → has_bit s.armed n ≡ true
    → has_bit s.raised n ≡ false
    → GoesOff s (after_rises k s) n k

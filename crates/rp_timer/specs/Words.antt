-- The registers of the timer (RP2040 Datasheet, 4.6.5, List of Registers), by their offsets after 40054000.
use Prim.Native.String.{String}
use Rattle.std.specs.Prelude.{ℕ, ◌+◌, ◌*◌, ◌%◌, ◌^◌, ◌==◌, Bool, not, List, [], ◌∷◌, Option, bit_or, slice_index, slice_set, ⊤}
use Rattle.rp_base.specs.Rows.{Row, read_only, write_only, read_write, read_acts, repeated, word_at, has_row, effect_at, offset_in, IsListed, IsHeld}
use Rattle.rp_base.specs.Word.{bit_number, has_bit, minus}
use Rattle.rp_timer.specs.State.{State, low_of, high_of, lines_of}

-- a write of an alarm arms it
abbrev pub with_alarm : ℕ → ℕ → State → State
with_alarm n w s = record s { alarms = slice_set s.alarms n w; armed = bit_or s.armed (2 ^ n) }

-- TIMEHW sets the time, its low word to what was written to TIMELW; a read of TIMELR latches the high word for TIMEHR; a 1 written
-- to ARMED disarms, and one to INTR clears
abbrev pub timer_rows : List (Row ⊤ State)
timer_rows =
    write_only 0x00 "TIMEHW" (λ w s. record s { time = w * 2 ^ 32 + s.low })
    ∷ write_only 0x04 "TIMELW" (λ w s. record s { low = w })
    ∷ read_only 0x08 "TIMEHR" (λ s. s.high)
    ∷ read_acts 0x0c "TIMELR" (λ s. low_of s.time) (λ s. record s { high = high_of s.time })
    ∷ repeated 4 4 (λ n. read_write 0x10 "ALARMn" (λ s. slice_index s.alarms n) (with_alarm n))
    ∷ read_write 0x20 "ARMED" (λ s. s.armed) (λ w s. record s { armed = minus s.armed w })
    ∷ read_only 0x24 "TIMERAWH" (λ s. high_of s.time)
    ∷ read_only 0x28 "TIMERAWL" (λ s. low_of s.time)
    ∷ read_write 0x2c "DBGPAUSE" (λ s. s.debug_pause) (λ w s. record s { debug_pause = w })
    ∷ read_write 0x30 "PAUSE" (λ s. bit_number s.paused) (λ w s. record s { paused = has_bit w 0 })
    ∷ read_write 0x34 "INTR" (λ s. s.raised) (λ w s. record s { raised = minus s.raised w })
    ∷ read_write 0x38 "INTE" (λ s. s.enabled) (λ w s. record s { enabled = w % 2 ^ 4 })
    ∷ read_write 0x3c "INTF" (λ s. s.forced) (λ w s. record s { forced = w % 2 ^ 4 })
    ∷ read_only 0x40 "INTS" (λ s. lines_of s)
    ∷ []

-- what a word reads as, that there is one, and what an access does
abbrev pub word_of : ℕ → State → Option ℕ
word_of offset s = word_at timer_rows tt offset s

abbrev pub is_word : ℕ → Bool
is_word offset = has_row timer_rows offset

abbrev pub effect_of : ℕ → Option ℕ → State → State
effect_of offset write s = effect_at timer_rows offset write s

-- the offset of a register by its name
abbrev pub offset_of : String → ℕ
offset_of name = offset_in timer_rows name

-- a read at this offset changes nothing: it is none of TIMELR
abbrev pub is_pure_read : ℕ → Bool
is_pure_read offset = not (offset == offset_of "TIMELR")

-- each register is what stands at its offset, and nothing stands at any other
abbrev pub EachRegisterIsAtItsOffset : Type 0
EachRegisterIsAtItsOffset = IsListed timer_rows

-- a timer that is held reads as 0, and stays as it is
abbrev pub ATimerThatIsHeldIsStill : Type 0
ATimerThatIsHeldIsStill = IsHeld timer_rows

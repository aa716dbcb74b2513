-- The registers of IO_BANK0, and from 1000 on those of PADS_BANK0, by their offsets (RP2040 Datasheet, 2.19.6.1, IO - User Bank,
-- and 2.19.6.3, Pad Control - User Bank).
use Rattle.std.specs.Prelude.{ℕ, ◌+◌, ◌*◌, ◌%◌, ◌^◌, Bool, nat_lt, if◌then◌else◌, List, [], ◌∷◌, ◌++◌, Option, bit_and, slice_set}
use Rattle.rp_base.specs.Rows.{Row, read_only, read_write, seen_only, repeated, has_row, effect_at, IsListed}
use Rattle.rp_base.specs.Rows as rows
use Rattle.rp_base.specs.Word.{bit_number}
use Rattle.rp_base.specs.Held.{unless_held, after_access}
use Rattle.io_bank.specs.declared.outputs.Outs.{Outs}
use Rattle.io_bank.specs.declared.events.Interrupts.{Interrupts}
use Rattle.io_bank.specs.State.{State}
use Rattle.io_bank.specs.Levels.{control_of, pad_of, level_from, enable_from, level_to, enable_to, level_sensed, input_of}
use Rattle.io_bank.specs.Interrupts.{event_word, with_word, raw_of, shown, cleared}

-- OUTFROMPERI, OUTTOPAD, OEFROMPERI, OETOPAD, INFROMPAD and INTOPERI; the last two are of the level now
abbrev pub status_of : State → Outs → ℕ → ℕ
status_of s outs pin =
    bit_number (level_from outs (control_of s pin) pin) * 2 ^ 8
    + bit_number (level_to outs (control_of s pin) pin) * 2 ^ 9
    + bit_number (enable_from outs (control_of s pin) pin) * 2 ^ 12
    + bit_number (enable_to outs (control_of s pin) pin) * 2 ^ 13
    + bit_number (level_sensed s s.current pin) * 2 ^ 17
    + bit_number (input_of s s.current pin) * 2 ^ 19

-- CTRL keeps FUNCSEL and the overrides
abbrev pub with_control : ℕ → ℕ → State → State
with_control pin w s = record s { controls = slice_set s.controls pin (bit_and w 0x3331F) }

abbrev pub pin_rows : List (Row Outs State)
pin_rows =
    repeated 30 8 (λ pin. seen_only 0x000 "GPIOn_STATUS" (λ outs s. status_of s outs pin))
    ∷ repeated 30 8 (λ pin. read_write 0x004 "GPIOn_CTRL" (λ s. control_of s pin) (with_control pin))
    ∷ []

abbrev pub with_enable : ℕ → ℕ → Interrupts → Interrupts
with_enable number w i = record i { enable = with_word number w i.enable }

abbrev pub with_force : ℕ → ℕ → Interrupts → Interrupts
with_force number w i = record i { force = with_word number w i.force }

-- a 1 written to INTR clears an edge
abbrev pub event_rows : {V : Type 0} → List (Row V State)
event_rows =
    repeated 4 4 (λ n. read_write 0x0f0 "INTRn" (λ s. event_word (raw_of s) n) (λ w s. record s { latched = cleared n w s.latched s.fresh }))
    ∷ repeated 4 4 (λ n. read_write 0x100 "PROC0_INTEn" (λ s. event_word s.core0.enable n) (λ w s. record s { core0 = with_enable n w s.core0 }))
    ∷ repeated 4 4 (λ n. read_write 0x110 "PROC0_INTFn" (λ s. event_word s.core0.force n) (λ w s. record s { core0 = with_force n w s.core0 }))
    ∷ repeated 4 4 (λ n. read_only 0x120 "PROC0_INTSn" (λ s. event_word (shown (raw_of s) s.core0) n))
    ∷ repeated 4 4 (λ n. read_write 0x130 "PROC1_INTEn" (λ s. event_word s.core1.enable n) (λ w s. record s { core1 = with_enable n w s.core1 }))
    ∷ repeated 4 4 (λ n. read_write 0x140 "PROC1_INTFn" (λ s. event_word s.core1.force n) (λ w s. record s { core1 = with_force n w s.core1 }))
    ∷ repeated 4 4 (λ n. read_only 0x150 "PROC1_INTSn" (λ s. event_word (shown (raw_of s) s.core1) n))
    ∷ []

-- a pad keeps eight bits
abbrev pub with_pad : ℕ → ℕ → State → State
with_pad pin w s = record s { pads = slice_set s.pads pin (w % 2 ^ 8) }

abbrev pub pad_rows : {V : Type 0} → List (Row V State)
pad_rows =
    read_write 0x1000 "VOLTAGE_SELECT" (λ s. s.voltage) (λ w s. record s { voltage = w })
    ∷ repeated 30 4 (λ pin. read_write 0x1004 "GPIOn" (λ s. pad_of s pin) (with_pad pin))
    ∷ []

-- those that wake from the dormant state are left out
abbrev pub bank_rows : List (Row Outs State)
bank_rows = pin_rows ++ event_rows ++ pad_rows

abbrev pub is_word : ℕ → Bool
is_word offset = has_row bank_rows offset

-- the block of a word is held in reset
abbrev pub is_held : ℕ → State → Bool
is_held offset s = if nat_lt offset 0x1000 then s.bank_held else s.pads_held

-- what a word reads as; None where there is none
abbrev pub word_of : ℕ → Outs → State → Option ℕ
word_of offset outs s = unless_held (is_held offset s) (rows.word_at bank_rows outs offset s)

abbrev pub after_any : ℕ → Option ℕ → State → State
after_any offset write s = effect_at bank_rows offset write s

-- what a read or a write does
abbrev pub effect_of : ℕ → Option ℕ → State → State
effect_of offset write s = after_access (is_word offset) (is_held offset s) s (after_any offset write s)

-- each register is what stands at its offset, and nothing stands at any other
abbrev pub EachRegisterIsAtItsOffset : Type 0
EachRegisterIsAtItsOffset = IsListed bank_rows

-- The 32 pins as a machine sees and writes them (RP2040 Datasheet, 3.4.1 and 3.5.6): a group of pins begins at its base and
-- goes on after pin 31 at pin 0.
use Rattle.std.specs.Prelude.{ℕ, ◌-◌, ◌^◌, bit_and, bit_or, slice_index}
use Rattle.std.specs.Int.{w32, bit_not, rotate_left, rotate_right}
use Rattle.pio_machine.specs.declared.machine.Machine1.{Machine1}
use Rattle.pio_machine.specs.declared.machine.Seen.{Seen}
use Rattle.pio_machine.specs.declared.machine.Done.{Done}
use Rattle.pio_machine.specs.Fields.{in_base}

-- ---- inputs

-- a pin is read behind its synchroniser, or where INPUT_SYNC_BYPASS has its bit before it
abbrev pub input_word : Seen → ℕ
input_word seen =
    bit_or (bit_and (slice_index seen.inputs 0) seen.bypass)
    (bit_and (slice_index seen.inputs 1) (bit_not w32 seen.bypass))

-- the inputs from IN_BASE on
abbrev pub mapped_inputs : Seen → Machine1 → ℕ
mapped_inputs seen m = rotate_right w32 (input_word seen) (in_base m)

-- ---- outputs

-- so many pins from a base on, as a mask
abbrev pub pins_from : ℕ → ℕ → ℕ
pins_from base count = rotate_left w32 (2 ^ count - 1) base

-- a word, in which the pins of a mask have the bits of another one
abbrev pub overlaid : ℕ → ℕ → ℕ → ℕ
overlaid mask bits word = bit_or (bit_and word (bit_not w32 mask)) (bit_and bits mask)

-- what is written last to a pin wins; the pins of a mask have the bits of a value, whose bit 0 is for the base
abbrev pub with_masked_levels : ℕ → ℕ → ℕ → Done → Done
with_masked_levels mask base value d = record d {
  levels = overlaid mask (rotate_left w32 value base) d.levels;
  level_mask = bit_or d.level_mask mask;
}

abbrev pub with_levels : ℕ → ℕ → ℕ → Done → Done
with_levels base count value d = with_masked_levels (pins_from base count) base value d

abbrev pub with_masked_enables : ℕ → ℕ → ℕ → Done → Done
with_masked_enables mask base value d = record d {
  enables = overlaid mask (rotate_left w32 value base) d.enables;
  enable_mask = bit_or d.enable_mask mask;
}

abbrev pub with_enables : ℕ → ℕ → ℕ → Done → Done
with_enables base count value d = with_masked_enables (pins_from base count) base value d

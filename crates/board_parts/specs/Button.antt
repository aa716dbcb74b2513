-- A button: it is pressed, and pulls its pin low, in the second half of each 100,000 cycles, and else drives nothing. It has no state.
-- The project's own.
use Rattle.std.specs.Prelude.{ℕ, ◌%◌, nat_le, if◌then◌else◌, List, [], slice_index}
use Rattle.board_parts.specs.declared.part.Drive.{Drive}
use Rattle.board_parts.specs.Part.{PartMeaning, no_drive, at_level}

abbrev pub pressed : List ℕ → List ℕ → ℕ → ℕ → Drive
pressed pins state cycle pads = if nat_le 50000 (cycle % 100000) then at_level (slice_index pins 0) 0 else no_drive

abbrev pub button : PartMeaning
button =
    record { pins = 1; words = 0; first = λ pins. []; drives = pressed; after_step = λ pins state cycle pads. state }

-- A wire from one pin to another: the second is driven with the level that the first has in the pads. It has no state. The project's own.
use Rattle.std.specs.Prelude.{ℕ, List, [], slice_index}
use Rattle.std.specs.Int.{bit_at}
use Rattle.board_parts.specs.declared.part.Drive.{Drive}
use Rattle.board_parts.specs.Part.{PartMeaning, at_level}

-- its pins are the one whose level it shows, and the one that it drives
abbrev pub looped : List ℕ → List ℕ → ℕ → ℕ → Drive
looped pins state cycle pads = at_level (slice_index pins 1) (bit_at pads (slice_index pins 0))

abbrev pub loop_back : PartMeaning
loop_back =
    record { pins = 2; words = 0; first = λ pins. []; drives = looped; after_step = λ pins state cycle pads. state }

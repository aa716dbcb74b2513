-- A shift register of eight bits, as a 74HC595 with its last output alone: its pins are clock, data and out, and its state is the register
-- and the level of the clock in the cycle before. Where the clock rises, the register moves up by one bit and takes the data; out shows
-- bit 7. The project's own.
use Rattle.std.specs.Prelude.{ℕ, ◌+◌, ◌*◌, ◌%◌, ◌&&◌, ◌==◌, if◌then◌else◌, List, [], ◌∷◌, slice_index}
use Rattle.std.specs.Int.{bit_at}
use Rattle.board_parts.specs.declared.part.Drive.{Drive}
use Rattle.board_parts.specs.Part.{PartMeaning, at_level}

abbrev pub shown : List ℕ → List ℕ → ℕ → ℕ → Drive
shown pins state cycle pads = at_level (slice_index pins 2) (bit_at (slice_index state 0) 7)

-- the register after a cycle, by what it was, the clock before and now, and the data
abbrev pub shifted : ℕ → ℕ → ℕ → ℕ → ℕ
shifted register before clock bit = if clock == 1 && before == 0 then (2 * register + bit) % 256 else register

abbrev pub clocked : List ℕ → List ℕ → ℕ → ℕ → List ℕ
clocked pins state cycle pads =
    let clock = bit_at pads (slice_index pins 0) in
    let bit = bit_at pads (slice_index pins 1) in
    shifted (slice_index state 0) (slice_index state 1) clock bit ∷ clock ∷ []

abbrev pub shift : PartMeaning
shift = record { pins = 3; words = 2; first = λ pins. 0 ∷ 0 ∷ []; drives = shown; after_step = clocked }

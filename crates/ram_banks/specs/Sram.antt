-- SRAM as a list of words: four banks of 64 KiB that take the words in turn, and two of 4 KiB, 67,584 words together
-- (RP2040 Datasheet, 2.6.2 "SRAM").
use Rattle.std.specs.Prelude.{ℕ, List, replicate, slice_index, slice_set}
use Rattle.ram_banks.specs.Lanes.{with_lanes}

-- so many words of 0
unfoldable pub zeros : ℕ → List ℕ
zeros count = replicate count 0

-- SRAM after a write of some byte lanes of the word of an index
abbrev pub written : List ℕ → ℕ → ℕ → ℕ → List ℕ
written sram index lanes value = slice_set sram index (with_lanes lanes value (slice_index sram index))

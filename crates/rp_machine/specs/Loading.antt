-- SRAM with an image: 67,584 words (RP2040 Datasheet, 2.6.2 "SRAM").
use Rattle.std.specs.Prelude.{ℕ, ◌+◌, ◌-◌, ◌*◌, List, ◌++◌, length, take, drop, map, replicate}
use Rattle.std.specs.List.{range_with_len, fold}
use Rattle.byteorder.specs.Endian.{little_number}
use Rattle.uf2_image.specs.declared.parts.Part.{Part}

-- the bytes with a part's bytes at their addresses; the first byte is that of address 20000000
abbrev pub with_part : List ℕ → Part → List ℕ
with_part bytes part =
    let at = part.address - 0x20000000 in take at bytes ++ part.bytes ++ drop (at + length part.bytes) bytes

-- so many bytes of 0
unfoldable pub zeros : ℕ → List ℕ
zeros count = replicate count 0

-- the bytes that an image leaves
abbrev pub bytes_with : List Part → List ℕ
bytes_with parts = fold with_part (zeros 270336) parts

-- the word of an index, little-endian
abbrev pub word_at : List ℕ → ℕ → ℕ
word_at bytes index = little_number 4 (drop (4 * index) bytes)

-- the first words of some bytes
unfoldable pub words_in : ℕ → List ℕ → List ℕ
words_in count bytes = map (word_at bytes) (range_with_len 0 count)

-- the words that an image leaves
unfoldable pub loaded_sram : List Part → List ℕ
loaded_sram parts = words_in 67584 (bytes_with parts)

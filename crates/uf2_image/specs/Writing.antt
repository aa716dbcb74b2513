-- The UF2 file of an image (Microsoft, "USB Flashing Format (UF2)", sections File format, Flags and Family ID).
use Rattle.std.specs.Prelude.{◌≡◌, ◌≤◌, ◌<◌, ℕ, ◌+◌, ◌-◌, ◌%◌, List, [], ◌∷◌, ◌++◌, length, replicate, Ok}
use Rattle.std.specs.List.{concat, flat_map, AllByRecursion}
use Rattle.byteorder.specs.Endian.{little_bytes}
use Rattle.uf2_image.specs.declared.parts.Part.{Part}
use Rattle.uf2_image.specs.declared.parts.Image.{Image}
use Rattle.uf2_image.specs.Uf2.{image_of, LieFrom}

-- words as bytes, each of them little-endian
unfoldable pub words : List ℕ → List ℕ
words xs = flat_map (little_bytes 4) xs

-- the block of 512 bytes that loads a part: two magic words, the flags (2000: a family is given), the target, the size of the
-- payload, the number of the block, the number of blocks, the family of the RP2040; then the payload, zeros up to 476 bytes, and
-- the last magic word
abbrev pub block_of : ℕ → ℕ → Part → List ℕ
block_of count number part =
    words
    (0x0A324655 ∷ 0x9E5D5157 ∷ 0x2000 ∷ part.address ∷ length part.bytes ∷ number ∷ count ∷ 0xE48BFF56 ∷ [])
    ++ (part.bytes ++ (replicate (476 - length part.bytes) 0 ++ words (0x0AB16F30 ∷ [])))

-- the blocks of parts, numbered from a first number on
abbrev pub blocks_from : ℕ → ℕ → List Part → List (List ℕ)
blocks_from count number [] = []
blocks_from count number (part ∷ parts) = block_of count number part ∷ blocks_from count (number + 1) parts

-- the blocks of an image, one for each part in order, numbered from 0
abbrev pub blocks_of : Image → List (List ℕ)
blocks_of image = blocks_from (length image.parts) 0 image.parts

-- the bytes of its file
unfoldable pub file_of : Image → List ℕ
file_of image = concat (blocks_of image)

-- ## The images that a file can hold

-- a part has bytes, and no more than a block has room for
pub record IsSized (part : Part) : Type 0 where
  pub some : 0 < length part.bytes
  pub room : length part.bytes ≤ 476

-- the address of the first part
abbrev pub first_address : List Part → ℕ
first_address [] = 0
first_address (part ∷ parts) = part.address

-- there are parts, and no more than a file of 16 MiB has blocks; each has a payload of a block; they ascend in SRAM without overlap;
-- and the entry is the least address with bit 0 cleared
pub record IsWritable (image : Image) : Type 0 where
  pub some : 0 < length image.parts
  pub few : length image.parts ≤ 32768
  pub sizes : AllByRecursion IsSized image.parts
  pub lies : LieFrom 0x20000000 image.parts
  pub entry : image.entry ≡ first_address image.parts - first_address image.parts % 2

-- ## Laws

-- the file of an image holds that image
abbrev pub WhatIsWrittenIsRead : Type 0
WhatIsWrittenIsRead = (image : Image) → IsWritable image → image_of (file_of image) ≡ Ok image

-- each image that a file of at most 16 MiB holds can be written
abbrev pub WhatIsReadCanBeWritten : Type 0
WhatIsReadCanBeWritten = (bytes : List ℕ) (image : Image) → length bytes ≤ 16777216 → image_of bytes ≡ Ok image → IsWritable image

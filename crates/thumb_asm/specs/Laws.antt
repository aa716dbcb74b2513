-- What is read of a line is what the grammar says, and what holds of every source that has no fault: its instructions stand at their
-- addresses, and the file of its image holds that image.
use Rattle.std.specs.Prelude.{◌≡◌, ℕ, ◌+◌, ◌-◌, ◌*◌, List, [], ◌∷◌, get_or, Option, Some, None, Ok, ⊤}
use Rattle.std.specs.Str.Lines.{lines}
use Rattle.rp_base.specs.declared.op.Op.{Op}
use Rattle.thumb_rows.specs.Rows.{operation_of}
use Rattle.uf2_image.specs.declared.parts.Image.{Image}
use Rattle.uf2_image.specs.Uf2.{image_of}
use Rattle.uf2_image.specs.Writing.{IsWritable, file_of}
use Rattle.thumb_parse.specs.Tokens.{code_part}
use Rattle.thumb_asm.specs.Lines.{statement_at}
use Rattle.thumb_asm.specs.Placed.{op_at}
use Rattle.thumb_asm.specs.Source.{Names, address_after, image_of_source, image_with, names_of, target_of}

-- the halfword so far behind the first of some bytes
abbrev pub half_at : List ℕ → ℕ → ℕ
half_at bytes place = get_or bytes place 0 + 256 * get_or bytes (place + 1) 0

-- the halfwords there are this operation by the table of encodings
abbrev pub IsDecoded : List ℕ → ℕ → Option Op → Type 0
IsDecoded bytes place (Some op) = operation_of (half_at bytes place) (half_at bytes (place + 2)) ≡ op
IsDecoded bytes place None = ⊤

-- the operation of a line at an address, if it is an instruction
abbrev pub instruction_of : Names → ℕ → List ℕ → Option Op
instruction_of names address code = op_at address (target_of names code (statement_at code).item) (statement_at code).item

-- so it is for each of the lines from this address on
unfoldable pub AreDecoded : Names → List ℕ → ℕ → List (List ℕ) → Type 0
AreDecoded names bytes address [] = ⊤
AreDecoded names bytes address (line ∷ rest) =
    IsDecoded bytes (address - 0x2000_0000) (instruction_of names address (code_part line))
    × AreDecoded names bytes (address_after address (code_part line)) rest

-- the image of a source is that of bytes in which each instruction of the source stands at its address
abbrev pub InstructionsAreDecoded : Type 0
InstructionsAreDecoded = (text : List ℕ) (image : Image) → image_of_source text ≡ Ok image →
    (bytes : List ℕ) × (image ≡ image_with bytes) × AreDecoded (names_of text) bytes 0x2000_0000 (lines text)

-- an image that can be written, which its own file holds, and whose entry is the start of SRAM
pub record IsReadBack (image : Image) : Type 0 where
  pub writable : IsWritable image
  pub read : image_of (file_of image) ≡ Ok image
  pub entry : image.entry ≡ 0x2000_0000

-- the file of a source's image holds that image
abbrev pub WhatIsAssembledIsReadBack : Type 0
WhatIsAssembledIsReadBack = (text : List ℕ) (image : Image) → image_of_source text ≡ Ok image → IsReadBack image

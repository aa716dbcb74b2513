-- A table of routines for images, in SRAM bank 4: memset and memcpy (their meaning is that of ISO C, 7.24.6.1 and 7.24.2.1, but what they
-- leave in R0 to R3 is the table's own; ARMv6-M Architecture Reference Manual, A6.7, for the instructions).
use Rattle.std.specs.Prelude.{◌<◌, ℕ, ◌+◌, nat_le, nat_lt, ◌&&◌, Bool, List, [], ◌∷◌, ◌++◌, length, Option, Some, None, Result, Ok, Err}
use Rattle.std.specs.List.{find, flat_map, list_any, range_with_len, AllByRecursion}
use Rattle.byteorder.specs.Endian.{little_bytes}
use Rattle.uf2_image.specs.declared.parts.Part.{Part}
use Rattle.uf2_image.specs.declared.parts.Image.{Image}
use Rattle.uf2_image.specs.Uf2.{insert_part}
use Rattle.startup_blocks.specs.declared.fault.StartFault.{StartFault}
use Rattle.startup_blocks.specs.declared.fault.StartFault.TheVariants.{Taken}

-- the words of the table: where memset and memcpy begin, with bit 0 set, as BLX wants it
abbrev pub entries : List ℕ
entries = 0x20040009 ∷ 0x20040015 ∷ []

-- memset: subs r2, #1; bcc .+8 (to bx lr); strb r1, [r0, r2]; b .-4; bx lr; and no instruction
abbrev pub memset : List ℕ
memset = 0x3A01 ∷ 0xD301 ∷ 0x5481 ∷ 0xE7FB ∷ 0x4770 ∷ 0x0000 ∷ []

-- memcpy: subs r2, #1; bcc .+10 (to bx lr); ldrb r3, [r1, r2]; strb r3, [r0, r2]; b .-6; bx lr
abbrev pub memcpy : List ℕ
memcpy = 0x3A01 ∷ 0xD302 ∷ 0x5C8B ∷ 0x5483 ∷ 0xE7FA ∷ 0x4770 ∷ []

-- the 32 bytes of the table
unfoldable pub table_bytes : List ℕ
table_bytes = flat_map (little_bytes 4) entries ++ flat_map (little_bytes 2) (memset ++ memcpy)

abbrev pub table : Part
table = record { address = 0x20040000; bytes = table_bytes }

-- ## Linking

-- one of the parts loads a byte at an address
unfoldable pub loads : List Part → ℕ → Bool
loads parts a = list_any (λ part. nat_le part.address a && nat_lt a (part.address + length part.bytes)) parts

-- the least address of the table that is loaded already
unfoldable pub taken : List Part → Option ℕ
taken parts = find (loads parts) (range_with_len 0x20040000 32)

-- the image with the table in order of address
abbrev pub with_table : Image → Image
with_table image = record { parts = insert_part image.parts table; entry = image.entry }

abbrev pub unless_taken : Option ℕ → Image → Result Image StartFault
unless_taken (Some a) image = Err (Taken a)
unless_taken None image = Ok (with_table image)

-- the linked image, or the fault
abbrev pub linked : Image → Result Image StartFault
linked image = unless_taken (taken image.parts) image

-- each part has bytes
abbrev pub HaveBytes : List Part → Type 0
HaveBytes parts = AllByRecursion (λ part. 0 < length part.bytes) parts

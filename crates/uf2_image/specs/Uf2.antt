-- The image that a UF2 file holds, for an RP2040 whose SRAM alone is loaded (Microsoft, "USB Flashing Format
-- (UF2)", sections File format, Flags and Family ID; RP2040 Datasheet, 2.2 Address map, 2.8.4.2 UF2 Format Details).
-- Bytes are numbers below 256, addresses are numbers without bound: nothing wraps at 2^32.
use Rattle.std.specs.Prelude.{◌≡◌, ◌≤◌, ◌<◌, ℕ, zero, suc, ◌+◌, ◌*◌, ◌-◌, ◌/◌, ◌%◌, ◌==◌, nat_lt, nat_le, Bool, not, ◌&&◌, ◌||◌, if◌then◌else◌, List, [], ◌∷◌, length, take, drop, map, min, bit_and, Option, Some, None, Result, Ok, Err}
use Rattle.std.specs.List.{range_with_len, enumerate_from, list_any, flat_map, filter, find, fold}
use Rattle.byteorder.specs.Endian.{little_number}
use Rattle.uf2_image.specs.declared.parts.Part.{Part}
use Rattle.uf2_image.specs.declared.parts.Image.{Image}
use Rattle.uf2_image.specs.declared.fault.ImageFault.{ImageFault}
use Rattle.uf2_image.specs.declared.fault.ImageFault.TheVariants.{Empty, Ragged, Magic, Payload, Count, Number, Repeat, Flash, Address, Overlap, Missing, Nothing}

-- ## Blocks (File format)

-- the block of a file that has this number, counted from 0
abbrev pub block_at : List ℕ → ℕ → List ℕ
block_at bytes k = take 512 (drop (k * 512) bytes)

-- the first n blocks of a file
abbrev pub blocks : List ℕ → ℕ → List (List ℕ)
blocks bytes n = map (block_at bytes) (range_with_len 0 n)

-- the word of a block at this index, little-endian
unfoldable pub word : List ℕ → ℕ → ℕ
word block index = little_number 4 (drop (4 * index) block)

-- the fields of a block
abbrev pub flags_of : List ℕ → ℕ
flags_of block = word block 2

abbrev pub target_of : List ℕ → ℕ
target_of block = word block 3

abbrev pub size_of : List ℕ → ℕ
size_of block = word block 4

abbrev pub number_of : List ℕ → ℕ
number_of block = word block 5

abbrev pub count_of : List ℕ → ℕ
count_of block = word block 6

abbrev pub family_of : List ℕ → ℕ
family_of block = word block 7

-- the payload: as many bytes as the block says, from byte 32 on
abbrev pub payload_of : List ℕ → List ℕ
payload_of block = take (size_of block) (drop 32 block)

-- the three magic words are right
unfoldable pub has_magic : List ℕ → Bool
has_magic block = (word block 0 == 0x0A324655) && (word block 1 == 0x9E5D5157) && (word block 127 == 0x0AB16F30)

-- ## The blocks that are kept (Flags, Family ID)

-- one of these flags is set
abbrev pub has_flag : List ℕ → ℕ → Bool
has_flag block mask = not (bit_and (flags_of block) mask == 0)

-- a block is kept where it is meant for main memory (flag 1, not for main flash, is clear), is no part of a file
-- container (flag 1000 is clear), and has no family (flag 2000 is clear) or that of the RP2040
unfoldable pub is_kept : List ℕ → Bool
is_kept block =
    not (has_flag block 0x1) && not (has_flag block 0x1000) && (not (has_flag block 0x2000) || (family_of block == 0xE48BFF56))

-- the kept blocks among the first n, in the order of the file
unfoldable pub kept : List ℕ → ℕ → List (List ℕ)
kept bytes n = filter is_kept (blocks bytes n)

-- ## What blocks load

-- the pairs (address, byte) that a block loads
abbrev pub pairs : List ℕ → List (ℕ × ℕ)
pairs block = enumerate_from (target_of block) (payload_of block)

-- the pairs (address, byte) that blocks load
abbrev pub loaded : List (List ℕ) → List (ℕ × ℕ)
loaded blocks = flat_map pairs blocks

-- a byte of a block lies at an address that passes a test
unfoldable pub any_address : (ℕ → Bool) → List ℕ → Bool
any_address test block = list_any (λ pair. test pair.0) (pairs block)

-- blocks load a byte at this address
unfoldable pub is_loaded : List (List ℕ) → ℕ → Bool
is_loaded blocks address = list_any (λ pair. pair.0 == address) (loaded blocks)

-- the addresses of the flash and its window (Address map: XIP)
abbrev pub is_flash : ℕ → Bool
is_flash address = nat_le 0x10000000 address && nat_lt address 0x14000000

-- the addresses of the six banks of SRAM (Address map: SRAM)
abbrev pub is_sram : ℕ → Bool
is_sram address = nat_le 0x20000000 address && nat_lt address 0x20042000

-- ## Faults

-- one of the blocks has this number
unfoldable pub has_number : List (List ℕ) → ℕ → Bool
has_number blocks number = list_any (λ block. number_of block == number) blocks

-- the first kept block, where `earlier` are those before this one
abbrev pub first_kept : List (List ℕ) → List ℕ → List ℕ
first_kept [] block = block
first_kept (first ∷ others) block = first

-- the fault of a kept block that is block k of the file, where `earlier` are the kept blocks before it: the first
-- of the written ones
unfoldable pub kept_fault : List (List ℕ) → ℕ → List ℕ → Option ImageFault
kept_fault earlier k block =
    (if size_of block == 0 || nat_lt 476 (size_of block) then Some (Payload k (size_of block))
    else (if count_of block == 0 || not (count_of block == count_of (first_kept earlier block)) then Some (Count k)
    else (if nat_le (count_of block) (number_of block) then Some (Number k)
    else (if has_number earlier (number_of block) then Some (Repeat k)
    else (if any_address is_flash block then Some (Flash k (target_of block))
    else (if any_address (λ address. not (is_sram address)) block then Some (Address k (target_of block))
    else (if any_address (is_loaded earlier) block then Some (Overlap k)
    else None)))))))

-- the fault of block k of the file, where `earlier` are the kept blocks before it
unfoldable pub block_fault : List (List ℕ) → ℕ → List ℕ → Option ImageFault
block_fault earlier k block =
    (if not (has_magic block) then Some (Magic k)
    else (if not (is_kept block) then None
    else kept_fault earlier k block))

-- the first of two faults
abbrev pub first_of : Option ImageFault → Option ImageFault → Option ImageFault
first_of (Some fault) second = Some fault
first_of None second = second

-- the fault of the first of the first n blocks that has one
unfoldable pub first_fault : List ℕ → ℕ → Option ImageFault
first_fault bytes zero = None
first_fault bytes (suc n) = first_of (first_fault bytes n) (block_fault (kept bytes n) n (block_at bytes n))

-- the least number below `count` that no block has
unfoldable pub least_missing : List (List ℕ) → ℕ → Option ℕ
least_missing blocks count = find (λ number. not (has_number blocks number)) (range_with_len 0 count)

-- ## The image

-- the part that a kept block loads
abbrev pub part_of : List ℕ → Part
part_of block = record { address = target_of block; bytes = payload_of block }

-- a part put into parts that stand in order of address
abbrev pub insert_part : List Part → Part → List Part
insert_part [] part = part ∷ []
insert_part (first ∷ others) part =
    (if nat_lt part.address first.address then part ∷ first ∷ others else first ∷ insert_part others part)

-- parts in order of address
abbrev pub in_order : List Part → List Part
in_order parts = fold insert_part [] parts

-- the least of some numbers
abbrev pub least : List ℕ → ℕ
least [] = 0
least (x ∷ xs) = fold min x xs

-- the least loaded address with bit 0 cleared
unfoldable pub entry_of : List (List ℕ) → ℕ
entry_of blocks = let lowest = least (map (λ pair. pair.0) (loaded blocks)) in lowest - lowest % 2

-- a missing block, or else the image of the blocks
abbrev pub unless_missing : Option ℕ → List (List ℕ) → Result Image ImageFault
unless_missing (Some number) blocks = Err (Missing number)
unless_missing None blocks = Ok (record { parts = in_order (map part_of blocks); entry = entry_of blocks })

-- what kept blocks without a fault of their own make
unfoldable pub whole : List (List ℕ) → Result Image ImageFault
whole [] = Err Nothing
whole (first ∷ others) = unless_missing (least_missing (first ∷ others) (count_of first)) (first ∷ others)

-- a fault, or else this answer
abbrev pub unless_fault : Option ImageFault → Result Image ImageFault → Result Image ImageFault
unless_fault (Some fault) answer = Err fault
unless_fault None answer = answer

-- the image of a file, or its first fault
unfoldable pub image_of : List ℕ → Result Image ImageFault
image_of bytes =
    (if length bytes == 0 then Err Empty
    else (if not (length bytes % 512 == 0) then Err (Ragged (length bytes))
    else unless_fault (first_fault bytes (length bytes / 512)) (whole (kept bytes (length bytes / 512)))))

-- ## What holds of every image

-- the parts lie one behind the other from an address on, without overlap, and end by the end of SRAM
abbrev pub LieFrom : ℕ → List Part → Type 0
LieFrom low [] = low ≤ 0x20042000
LieFrom low (part ∷ parts) = (low ≤ part.address) × LieFrom (part.address + length part.bytes) parts

-- the parts ascend in SRAM without overlap, and the entry is an even address there
pub record FitsSram (image : Image) : Type 0 where
  pub parts : LieFrom 0x20000000 image.parts
  pub even : image.entry % 2 ≡ 0
  pub from_start : 0x20000000 ≤ image.entry
  pub before_end : image.entry < 0x20042000

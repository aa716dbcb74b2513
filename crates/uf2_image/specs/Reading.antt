-- What a reader of blocks keeps beside the kept blocks (Microsoft, "USB Flashing Format (UF2)", section File format: the
-- payload of a block, its number, and the number of blocks).
use Rattle.std.specs.Prelude.{◌≡◌, ◌<◌, ◌≤◌, ◌+◌, ◌⊎◌, ℕ, List, [], ◌∷◌, false, length, map, slice_index_or}
use Rattle.std.specs.Ordering.{nat_cmp}
use Rattle.std.specs.BTreeSet.{contains}
use Rattle.std.specs.List.{All, AllByRecursion}
use Rattle.uf2_image.specs.declared.parts.Part.{Part}
use Rattle.uf2_image.specs.declared.reading.KeptBlocks.{KeptBlocks}
use Rattle.uf2_image.specs.Uf2.{has_number, is_loaded, part_of, insert_part, size_of, target_of}

-- the numbers are those of the blocks, and the flags say which bytes of SRAM the blocks load
pub record IsIndexed (kept : KeptBlocks) : Type 0 where
  pub numbers : (n : ℕ) → contains nat_cmp kept.numbers n ≡ has_number kept.blocks.items n
  pub long : length kept.loaded.items ≡ 0x42000
  pub loaded : (k : ℕ) → k < 0x42000 → slice_index_or kept.loaded.items k false ≡ is_loaded kept.blocks.items (0x20000000 + k)

-- a block has a payload, which is no longer than a block has room for
pub record HasPayload (block : List ℕ) : Type 0 where
  pub some : 0 < size_of block
  pub room : size_of block ≤ 476
  pub long : length block ≡ 512

-- a block lies in SRAM
pub record LiesInSram (block : List ℕ) : Type 0 where
  pub start : 0x20000000 ≤ target_of block
  pub finish : target_of block + size_of block ≤ 0x20042000

-- a part has bytes, and lies in SRAM
pub record IsSolid (part : Part) : Type 0 where
  pub some : 0 < length part.bytes
  pub start : 0x20000000 ≤ part.address
  pub finish : part.address + length part.bytes ≤ 0x20042000

-- one part ends before the other begins
abbrev pub AreApart : Part → Part → Type 0
AreApart p q =
    ((p.address < q.address) × (p.address + length p.bytes ≤ q.address))
    ⊎ ((q.address < p.address) × (q.address + length q.bytes ≤ p.address))

-- each of these parts can be placed among those before it, of which `placed` are there already
abbrev pub CanBePlaced : List Part → List Part → Type 0
CanBePlaced placed [] = Unit {0}
CanBePlaced placed (part ∷ parts) = IsSolid part × AllByRecursion (AreApart part) placed × CanBePlaced (insert_part placed part) parts

-- the blocks have payloads whose parts can be placed one after the other
pub record AreSpread (blocks : List (List ℕ)) : Type 0 where
  pub payloads : All HasPayload blocks
  pub parts : CanBePlaced [] (map part_of blocks)

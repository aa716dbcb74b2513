-- SRAM as a list of bytes: byte k of the list is that of the address 20000000 + k (RP2040 Datasheet, 2.6.2, SRAM; ARMv6-M
-- Architecture Reference Manual, A3.3, little-endian memory).
use Rattle.std.specs.Prelude.{◌≡◌, ℕ, ◌+◌, ◌*◌, ◌/◌, ◌%◌, ◌^◌, ◌<◌, ◌==◌, if◌then◌else◌, List, [], ◌∷◌, ◌++◌, length, take, drop, slice_index, Option, Some}
use Rattle.rp_base.specs.declared.Request.{Request}
use Rattle.rp_base.specs.declared.Size.{Size}
use Rattle.rp_base.specs.declared.Size.TheVariants as sizes
use Rattle.rp_base.specs.declared.map.Spot.{Spot}
use Rattle.rp_base.specs.declared.map.Spot.TheVariants as spot
use Rattle.rp_base.specs.Map.{place_of}
use Rattle.rp_base.specs.Word.{byte_of, joined}
use Rattle.lane_look.specs.declared.lane.Ask.{Ask}
use Rattle.lane_look.specs.declared.lane.Ask.TheVariants as ask
use Rattle.lane_look.specs.declared.lane.Want.{Want}
use Rattle.lane_look.specs.declared.lane.Want.TheVariants as want
use Rattle.lane_look.specs.Alone.{Surroundings, surroundings}

-- ---- lists of bytes

-- the list in which these bytes stand from a place on
abbrev pub put : List ℕ → ℕ → List ℕ → List ℕ
put m at bytes = take at m ++ (bytes ++ drop (at + length bytes) m)

-- these bytes stand from a place on
abbrev pub Holds : List ℕ → ℕ → List ℕ → Type 0
Holds m at bytes = take (length bytes) (drop at m) ≡ bytes

-- 67,584 words
pub record IsSram (m : List ℕ) : Type 0 where
  pub size : length m ≡ 0x42000
  pub bytes : (k : ℕ) → slice_index m k < 2 ^ 8

-- ---- what is read

-- the word of the four bytes from a place on
abbrev pub word_from : List ℕ → ℕ → ℕ
word_from m k =
    joined (slice_index m (k + 3)) (slice_index m (k + 2)) (slice_index m (k + 1)) (slice_index m k)

-- the word of a spot; outside SRAM there is none
abbrev pub word_at : List ℕ → Spot → ℕ
word_at m (spot.Ram index bank) = word_from m (4 * index)
word_at m _ = 0

-- the halfword of a word at an address
abbrev pub half_of : ℕ → ℕ → ℕ
half_of word address = if address / 2 % 2 == 0 then word % 2 ^ 16 else word / 2 ^ 16

-- what a core is answered: the interrupt lines are low
abbrev pub answer : List ℕ → Ask → ℕ
answer m (ask.Half address) = half_of (word_at m (place_of address)) address
answer m (ask.Word address) = word_at m (place_of address)
answer m _ = 0

-- ---- what is written

-- the bytes of a value of that size, the lowest first
abbrev pub bytes_of : Size → ℕ → List ℕ
bytes_of sizes.Byte value = byte_of value 0 ∷ []
bytes_of sizes.Half value = byte_of value 0 ∷ byte_of value 1 ∷ []
bytes_of sizes.Word value = byte_of value 0 ∷ byte_of value 1 ∷ byte_of value 2 ∷ byte_of value 3 ∷ []

-- where they begin in the word that holds the address, as in `lanes_at`
abbrev pub begins_at : Size → ℕ → ℕ
begins_at sizes.Byte address = address % 4
begins_at sizes.Half address = 2 * (address / 2 % 2)
begins_at sizes.Word address = 0

-- what an access at a spot leaves
abbrev pub stored_at : Request → Option ℕ → Spot → List ℕ → List ℕ
stored_at request (Some value) (spot.Ram index bank) m =
    put m (4 * index + begins_at request.size request.address) (bytes_of request.size value)
stored_at request _ _ m = m

abbrev pub stored_by : Request → List ℕ → List ℕ
stored_by request m = stored_at request request.write (place_of request.address) m

abbrev pub stored : List ℕ → Want → List ℕ
stored m (want.Ram request) = stored_by request m
stored m _ = m

-- around a core that runs alone: SRAM, of which each access is done at once
abbrev pub around : Surroundings (List ℕ)
around = surroundings answer stored

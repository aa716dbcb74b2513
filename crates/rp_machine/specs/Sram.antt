-- What is read of SRAM: the halfword or the word of an address
-- (RP2040 Datasheet, 2.6.2 "SRAM"; ARMv6-M Architecture Reference Manual, A3.3, little-endian memory).
use Rattle.std.specs.Prelude.{ℕ, ◌/◌, ◌%◌, ◌^◌, ◌==◌, if◌then◌else◌, List, Option, Some, None, slice_index}
use Rattle.rp_base.specs.declared.map.Spot.{Spot}
use Rattle.rp_base.specs.declared.map.Spot.TheVariants as spot

-- the halfword of a word at an address
abbrev pub half_of : ℕ → ℕ → ℕ
half_of word address = if address / 2 % 2 == 0 then word % 2 ^ 16 else word / 2 ^ 16

-- the word of a spot; None where it is not in SRAM
abbrev pub ram_word : List ℕ → Spot → Option ℕ
ram_word sram (spot.Ram index bank) = Some (slice_index sram index)
ram_word sram _ = None

-- What an access has of the word that holds its address, and who names it (ARMv6-M Architecture Reference Manual, A3.3,
-- little-endian memory; RP2040 Datasheet, 2.1.1 "AHB-Lite Crossbar", 2.1.4 "Narrow IO Register Writes").
use Rattle.std.specs.Prelude.{ℕ, ◌*◌, ◌/◌, ◌%◌, ◌^◌, ◌==◌, if◌then◌else◌, Option, Some, None}
use Rattle.rp_base.specs.declared.Size.{Size}
use Rattle.rp_base.specs.declared.Size.TheVariants as sizes
use Rattle.rp_base.specs.declared.Master.{Master}
use Rattle.rp_base.specs.declared.Master.TheVariants.{Core0, Core1}

-- what an access of that size at an address reads of its word
abbrev pub lanes_of : Size → ℕ → ℕ → ℕ
lanes_of sizes.Byte address word = word / 2 ^ (8 * (address % 4)) % 2 ^ 8
lanes_of sizes.Half address word = word / 2 ^ (16 * (address / 2 % 2)) % 2 ^ 16
lanes_of sizes.Word address word = word

-- the byte lanes of an access of that size at an address, lane k as bit k
abbrev pub lanes_at : Size → ℕ → ℕ
lanes_at sizes.Byte address = 2 ^ (address % 4)
lanes_at sizes.Half address = if address / 2 % 2 == 0 then 3 else 12
lanes_at sizes.Word address = 15

-- a narrow write is replicated over the word
abbrev pub replicated : Size → ℕ → ℕ
replicated sizes.Byte value = value % 2 ^ 8 * 0x01010101
replicated sizes.Half value = value % 2 ^ 16 * 0x00010001
replicated sizes.Word value = value

-- the word that an access writes; a read writes none
abbrev pub word_written : Size → Option ℕ → Option ℕ
word_written size None = None
word_written size (Some value) = Some (replicated size value)

-- the master that a core is
abbrev pub master_of : ℕ → Master
master_of number = if number == 0 then Core0 else Core1

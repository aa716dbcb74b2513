-- Writes through the atomic aliases of a register block (RP2040 Datasheet, 2.1.2 "Atomic Register Access").
use Rattle.std.specs.Prelude.{ℕ, ◌==◌, if◌then◌else◌, Option, None, Some, bit_or, bit_xor}
use Rattle.rp_base.specs.Word.{minus}

-- what a write through an alias leaves of a word: 1 is XOR, 2 sets bits, 3 clears bits
abbrev pub aliased : ℕ → ℕ → ℕ → ℕ
aliased alias word value =
    if alias == 0 then value else
    if alias == 1 then bit_xor word value else
    if alias == 2 then bit_or word value else minus word value

-- a place without a register reads as 0
abbrev pub or_zero : Option ℕ → ℕ
or_zero None = 0
or_zero (Some w) = w

-- Lists of registers: registers and ranges `a-b`, joined by commas (ARMv6-M Architecture Reference Manual, A6.7, Assembler syntax).
use Rattle.std.specs.Prelude.{ℕ, ◌+◌, ◌-◌, ◌^◌, Bool, true, ◌&&◌, nat_le, nat_lt, if◌then◌else◌, List, [], ◌∷◌, bit_or}
use Rattle.std.specs.List.{range_with_len}

-- the registers of a range; where its last is below its first these two, which do not ascend
abbrev pub range_of : ℕ → ℕ → List ℕ
range_of a b = if nat_lt b a then a ∷ b ∷ [] else range_with_len a (b - a + 1)

-- each register is above those before it, and none is below this one
abbrev pub ascend_from : ℕ → List ℕ → Bool
ascend_from least [] = true
ascend_from least (r ∷ rs) = nat_le least r && ascend_from (r + 1) rs

-- bit k for register k
abbrev pub register_bit : ℕ → ℕ
register_bit r = if nat_lt r 16 then 2 ^ r else 0

-- these bits with those of some registers
abbrev pub bits_with : ℕ → List ℕ → ℕ
bits_with bits [] = bits
bits_with bits (r ∷ rs) = bits_with (bit_or bits (register_bit r)) rs

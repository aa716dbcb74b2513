-- The shifts of the two shift registers (RP2040 Datasheet, 3.4.4, IN, and 3.4.5, OUT): a word of 32 bits and a count of 1
-- to 32 bits.
use Rattle.std.specs.Prelude.{ℕ, ◌+◌, ◌-◌, ◌*◌, ◌/◌, ◌%◌, ◌^◌, Bool, if◌then◌else◌, min}

-- the bits that leave a word at its bottom or at its top
abbrev pub taken : Bool → ℕ → ℕ → ℕ
taken right count word = if right then word % 2 ^ count else word / 2 ^ (32 - count)

-- what stays of it, with zeros behind
abbrev pub remaining : Bool → ℕ → ℕ → ℕ
remaining right count word = if right then word / 2 ^ count else word * 2 ^ count % 2 ^ 32

-- the low bits of a value enter a word at its top or at its bottom
abbrev pub entered : Bool → ℕ → ℕ → ℕ → ℕ
entered right count value word =
    if right
    then (word / 2 ^ count + value * 2 ^ (32 - count)) % 2 ^ 32
    else (word * 2 ^ count + value % 2 ^ count) % 2 ^ 32

-- a shift count stops at 32 (3.5.4)
abbrev pub counted : ℕ → ℕ → ℕ
counted before count = min (before + count) 32

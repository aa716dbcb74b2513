-- Shifts and rotations with the carry that they leave (ARMv6-M Architecture Reference Manual, A2.2.1 and A6.4.2). Each
-- shift is of an unbounded number, and the carry is the last bit that leaves the word.
use Rattle.std.specs.Prelude.{ℕ, ◌+◌, ◌-◌, ◌*◌, ◌/◌, ◌%◌, ◌^◌, Bool, ◌==◌, pos, if◌then◌else◌}
use Rattle.std.specs.Int.{w32, cast_signed, int_div_euclid}
use Rattle.rp_base.specs.Word.{word_of, has_bit, has_signed_bit}
use Rattle.m0_alu.specs.declared.ShiftKind.{ShiftKind}
use Rattle.m0_alu.specs.declared.ShiftKind.TheVariants.{Lsl, Lsr, Asr, Ror}

-- LSL_C: the product with a power of two, whose bit 32 is the carry
abbrev pub shifted_left : ℕ → ℕ → ℕ × Bool
shifted_left x amount = (x * 2 ^ amount % 2 ^ 32, has_bit (x * 2 ^ amount) 32)

-- LSR_C: the quotient, rounded down
abbrev pub shifted_right : ℕ → ℕ → ℕ × Bool
shifted_right x amount = (x / 2 ^ amount, has_bit x (amount - 1))

-- ASR_C: the quotient of the signed number, rounded down
abbrev pub shifted_right_signed : ℕ → ℕ → ℕ × Bool
shifted_right_signed x amount =
    (word_of (int_div_euclid (cast_signed w32 x) (pos (2 ^ amount))), has_signed_bit (cast_signed w32 x) (amount - 1))

-- the low bits of a word go to its top, and the others move down
abbrev pub rotated : ℕ → ℕ → ℕ
rotated x count = (x / 2 ^ count + x * 2 ^ (32 - count)) % 2 ^ 32

-- ROR_C: a rotation by the amount modulo 32, whose bit 31 is the carry
abbrev pub rotated_right : ℕ → ℕ → ℕ × Bool
rotated_right x amount = (rotated x (amount % 32), has_bit (rotated x (amount % 32)) 31)

-- a shift by an amount above 0
abbrev pub shifted_by : ShiftKind → ℕ → ℕ → ℕ × Bool
shifted_by Lsl x amount = shifted_left x amount
shifted_by Lsr x amount = shifted_right x amount
shifted_by Asr x amount = shifted_right_signed x amount
shifted_by Ror x amount = rotated_right x amount

-- Shift_C: a shift by 0 keeps the word and the carry
abbrev pub shifted : ShiftKind → ℕ → ℕ → Bool → ℕ × Bool
shifted kind x amount carry = if amount == 0 then (x, carry) else shifted_by kind x amount

-- Sums with carry and overflow (ARMv6-M Architecture Reference Manual, A2.2.1, AddWithCarry): the sums are of unbounded
-- numbers, once of the words and once of the signed numbers that they stand for.
use Rattle.std.specs.Prelude.{ℕ, ◌+◌, ◌%◌, ◌^◌, Bool, not, ◌==◌, ℤ, pos, ◌+ℤ◌}
use Rattle.std.specs.Int.{w32, cast_signed}
use Rattle.std.specs.Ordering.{int_eq}
use Rattle.rp_base.specs.Word.{bit_number}

abbrev pub unsigned_sum : ℕ → ℕ → Bool → ℕ
unsigned_sum x y carry = x + y + bit_number carry

abbrev pub signed_sum : ℕ → ℕ → Bool → ℤ
signed_sum x y carry = (cast_signed w32 x +ℤ cast_signed w32 y) +ℤ pos (bit_number carry)

-- the word of the sum
abbrev pub sum_of : ℕ → ℕ → Bool → ℕ
sum_of x y carry = unsigned_sum x y carry % 2 ^ 32

-- the carry: the word is not the sum of the words
abbrev pub carry_of : ℕ → ℕ → Bool → Bool
carry_of x y carry = not (sum_of x y carry == unsigned_sum x y carry)

-- the overflow: the word does not stand for the sum of the signed numbers
abbrev pub overflow_of : ℕ → ℕ → Bool → Bool
overflow_of x y carry = not (int_eq (cast_signed w32 (sum_of x y carry)) (signed_sum x y carry))

-- the word, its carry and its overflow
abbrev pub add_with_carry : ℕ → ℕ → Bool → ℕ × Bool × Bool
add_with_carry x y carry = (sum_of x y carry, carry_of x y carry, overflow_of x y carry)

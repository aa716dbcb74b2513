-- Words of 32 bits as whole numbers (ARMv6-M Architecture Reference Manual, A2.2.1 and A3.3). A word is a number below
-- 2 ^ 32, and the signed number that it stands for is `cast_signed w32` of it, an integer.
use Rattle.std.specs.Prelude.{ℕ, ◌+◌, ◌-◌, ◌*◌, ◌/◌, ◌%◌, ◌^◌, Bool, not, nat_le, ◌==◌, ℤ, pos, negsuc, if◌then◌else◌, bit_and}
use Rattle.std.specs.Int.{bit_at}

-- the word that an integer leaves in two's complement
abbrev pub word_of : ℤ → ℕ
word_of (pos n) = n % 2 ^ 32
word_of (negsuc n) = 2 ^ 32 - 1 - n % 2 ^ 32

-- bit k of a number is set
abbrev pub has_bit : ℕ → ℕ → Bool
has_bit n k = bit_at n k == 1

-- bit k of an integer in two's complement: the bits of -(n + 1) are those of n turned
abbrev pub has_signed_bit : ℤ → ℕ → Bool
has_signed_bit (pos n) k = has_bit n k
has_signed_bit (negsuc n) k = not (has_bit n k)

-- what the flag N says of a word: its bit 31 is set
abbrev pub is_negative_word : ℕ → Bool
is_negative_word x = nat_le (2 ^ 31) x

-- what the flag Z says of a word
abbrev pub is_zero_word : ℕ → Bool
is_zero_word x = x == 0

-- a bit or a carry as a number
abbrev pub bit_number : Bool → ℕ
bit_number bit = if bit then 1 else 0

-- the bits of a word that another one does not have
abbrev pub minus : ℕ → ℕ → ℕ
minus word other = bit_and word (2 ^ 32 - 1 - other)

-- byte k of a word, 0 the lowest
abbrev pub byte_of : ℕ → ℕ → ℕ
byte_of x k = x / 2 ^ (8 * k) % 2 ^ 8

-- the word of four bytes, from the highest
abbrev pub joined : ℕ → ℕ → ℕ → ℕ → ℕ
joined first second third last = first * 2 ^ 24 + second * 2 ^ 16 + third * 2 ^ 8 + last

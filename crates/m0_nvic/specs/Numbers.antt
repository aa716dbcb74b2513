-- Sets of exception numbers as numbers of bits (ARMv6-M Architecture Reference Manual, B1.5.2, exception number definition,
-- and B3.4, the NVIC registers with one bit for each interrupt).
use Rattle.std.specs.Prelude.{ℕ, zero, suc, ◌+◌, ◌-◌, ◌*◌, ◌/◌, ◌%◌, ◌^◌, Bool, ◌&&◌, nat_lt, List, [], ◌∷◌, bit_and, filter}
use Rattle.rp_base.specs.Word.{has_bit}
use Rattle.m0_nvic.specs.Exceptions.{NUMBERS}

-- there are 48 exception numbers: 16 of the system and 32 interrupts
abbrev pub is_number : ℕ → Bool
is_number n = nat_lt n NUMBERS

-- so many numbers from a first one on
abbrev pub numbers_from : ℕ → ℕ → List ℕ
numbers_from first zero = []
numbers_from first (suc count) = first ∷ numbers_from (first + 1) count

unfoldable pub numbers : List ℕ
numbers = numbers_from 0 NUMBERS

-- the members of a set, ascending
abbrev pub members : ℕ → List ℕ
members set = filter (has_bit set) numbers

abbrev pub is_member : ℕ → ℕ → Bool
is_member n set = is_number n && has_bit set n

-- the bits of a word that another one does not have
abbrev pub minus : ℕ → ℕ → ℕ
minus set other = bit_and set (2 ^ 64 - 1 - other)

-- the interrupts of a set as a word, and the set of a word of interrupts
abbrev pub interrupts : ℕ → ℕ
interrupts set = set / 2 ^ 16 % 2 ^ 32

abbrev pub of_interrupts : ℕ → ℕ
of_interrupts word = word * 2 ^ 16

-- The number of digits to a base: each weighs the base to the power of how many come after it (the project's own).
use Rattle.std.specs.Prelude.{nat_le, ℕ, ◌+◌, ◌*◌, ◌^◌, ◌&&◌, if◌then◌else◌, List, [], ◌∷◌, length, Option, None, Some}
use Rattle.std.specs.Char.{digit_value, is_digit}
use Rattle.std.specs.List.{list_all}

abbrev pub value_in : ℕ → List ℕ → ℕ
value_in base [] = 0
value_in base (digit ∷ digits) = digit_value digit * base ^ length digits + value_in base digits

-- none where a character is no digit to the base
abbrev pub digits_value : ℕ → List ℕ → Option ℕ
digits_value base digits = if list_all (λ c. is_digit c base) digits then Some (value_in base digits) else None

-- the number of at least one and at most so many digits
abbrev pub number_of : ℕ → ℕ → List ℕ → Option ℕ
number_of base most digits = if nat_le 1 (length digits) && nat_le (length digits) most then digits_value base digits else None

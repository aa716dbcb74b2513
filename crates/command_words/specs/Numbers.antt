-- Numbers among the words of a command line: the project's own.
use Rattle.std.specs.Prelude.{ℕ, ◌+◌, ◌-◌, ◌*◌, nat_le, nat_lt, ◌==◌, Bool, false, not, ◌&&◌, ◌||◌, if◌then◌else◌, List, [], ◌∷◌, length, Option, Some, None}
use Rattle.std.specs.Char.{is_ascii_digit}

-- what a value gives, where there is one
abbrev pub given : {X Y : Type 0} → Option X → (X → Option Y) → Option Y
given None next = None
given (Some x) next = next x

-- the number of decimal digits, where those before them stand for n
abbrev pub digits_from : ℕ → List ℕ → Option ℕ
digits_from n [] = Some n
digits_from n (d ∷ ds) = if is_ascii_digit d then digits_from (10 * n + (d - 48)) ds else None

-- a word that begins with this byte
abbrev pub begins_with : ℕ → List ℕ → Bool
begins_with byte [] = false
begins_with byte (x ∷ xs) = x == byte

-- a number of 1 to 20 decimal digits, and no 0 before other digits
abbrev pub number_of : List ℕ → Option ℕ
number_of word =
    if nat_le 1 (length word) && nat_le (length word) 20 && (not (begins_with 48 word) || length word == 1)
    then digits_from 0 word else None

-- a number from low to high
abbrev pub number_within : ℕ → ℕ → List ℕ → Option ℕ
number_within low high word = given (number_of word) (λ n. if nat_le low n && nat_le n high then Some n else None)

-- a number below a count
abbrev pub number_below : ℕ → List ℕ → Option ℕ
number_below count word = given (number_of word) (λ n. if nat_lt n count then Some n else None)

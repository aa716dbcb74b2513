-- The words of a generated program: the generator PCG-XSH-RR of 64 bits of state and words of 32 bits, on stream 1
-- (M. O'Neill, "PCG: A Family of Simple Fast Space-Efficient Statistically Good Algorithms for Random Number Generation",
-- 6.3.1), begun from a number as the reference code begins it.
use Rattle.std.specs.Prelude.{ℕ, ◌+◌, ◌*◌, ◌/◌, ◌%◌, ◌^◌, bit_xor}
use Rattle.std.specs.Int.{w32, rotate_right}

-- the state after a state; the increment of stream 1 is 3
abbrev pub step : ℕ → ℕ
step state = (state * 6364136223846793005 + 3) % 2 ^ 64

-- the state before the first word
abbrev pub first_state : ℕ → ℕ
first_state number = step (number + 3)

-- the word of a state: the high bits are mixed into it, and the top five bits say how far 32 of its bits are turned
unfoldable pub word_of : ℕ → ℕ
word_of state = rotate_right w32 (bit_xor (state / 2 ^ 18) state / 2 ^ 27 % 2 ^ 32) (state / 2 ^ 59)

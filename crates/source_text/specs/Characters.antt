-- The characters of words: ASCII letters, digits and `_` (RP2040 Datasheet, 3.3; of Thumb sources the project's own).
use Rattle.std.specs.Prelude.{◌==◌, ◌&&◌, ◌||◌, nat_le, ℕ, Bool}

abbrev pub is_between : ℕ → ℕ → ℕ → Bool
is_between low high n = nat_le low n && nat_le n high

abbrev pub is_digit : ℕ → Bool
is_digit c = is_between 48 57 c

-- what goes on with a word: a letter, a digit or an underscore
abbrev pub is_word_char : ℕ → Bool
is_word_char c = is_between 97 122 c || is_between 65 90 c || is_digit c || c == 95

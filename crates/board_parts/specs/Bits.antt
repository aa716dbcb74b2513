-- How the decoder keeps its bits: as one number and a count of its bits.
use Rattle.std.specs.Prelude.{ℕ, zero, suc, ◌/◌, ◌%◌, List, [], ◌∷◌}

-- the last so many bits of a number, the lowest first
abbrev pub bits_in : ℕ → ℕ → List ℕ
bits_in zero number = []
bits_in (suc count) number = number % 2 ∷ bits_in count (number / 2)

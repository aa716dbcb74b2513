-- Faults over the lines of a text: the first line counts (the project's own).
use Rattle.std.specs.Prelude.{ℕ, ◌+◌, Bool, if◌then◌else◌, List, [], ◌∷◌, Option, None, Some}

-- the number of the first line that passes a test, where the next one has this number
unfoldable pub first_that : (List ℕ → Bool) → ℕ → List (List ℕ) → Option ℕ
first_that test n [] = None
first_that test n (line ∷ rest) = if test line then Some n else first_that test (n + 1) rest

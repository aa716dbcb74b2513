-- The lines among the bytes that were taken from an input: the project's own. A line ends with LF, before which one CR is dropped.
use Rattle.std.specs.Prelude.{ℕ, Bool, ◌==◌, if◌then◌else◌, List, [], ◌∷◌, ◌++◌}
use Rattle.std.specs.List.{list_any}
use Rattle.std.specs.Str.Lines.{strip_carriage_return}

-- bytes without the one CR at their end: before an LF, the line
abbrev pub without_cr : List ℕ → List ℕ
without_cr bytes = strip_carriage_return bytes

-- the complete lines of a text that goes on with an open line
abbrev pub complete_from : List ℕ → List ℕ → List (List ℕ)
complete_from held [] = []
complete_from held (b ∷ bs) = if b == 10 then without_cr held ∷ complete_from [] bs else complete_from (held ++ b ∷ []) bs

-- and what stands behind the last LF
abbrev pub open_from : List ℕ → List ℕ → List ℕ
open_from held [] = held
open_from held (b ∷ bs) = if b == 10 then open_from [] bs else open_from (held ++ b ∷ []) bs

abbrev pub complete_lines : List ℕ → List (List ℕ)
complete_lines bytes = complete_from [] bytes

abbrev pub open_line : List ℕ → List ℕ
open_line bytes = open_from [] bytes

-- at the end of an input an open line is one too, unless it is empty
abbrev pub unless_empty : List ℕ → List (List ℕ)
unless_empty [] = []
unless_empty (b ∷ bs) = (b ∷ bs) ∷ []

abbrev pub all_lines : List ℕ → List (List ℕ)
all_lines bytes = complete_lines bytes ++ unless_empty (open_line bytes)

-- the lines before the first that is a last one
abbrev pub until : (List ℕ → Bool) → List (List ℕ) → List (List ℕ)
until last [] = []
until last (line ∷ lines) = if last line then [] else line ∷ until last lines

-- a last line stands among the complete ones
abbrev pub closes : (List ℕ → Bool) → List ℕ → Bool
closes last bytes = list_any last (complete_lines bytes)

-- Positions in a text: lines and columns count from 1 (the project's own).
use Rattle.std.specs.Prelude.{◌==◌, ◌<◌, ℕ, ◌+◌, if◌then◌else◌, List, [], ◌∷◌}
use Rattle.source_text.specs.declared.position.SourcePosition.{SourcePosition}

-- where a text begins
abbrev pub first_position : SourcePosition
first_position = record { line = 1; column = 1 }

-- the position of the character after one at a position
abbrev pub position_behind : ℕ → SourcePosition → SourcePosition
position_behind c position = if c == 10 then record { line = position.line + 1; column = 1 } else record { line = position.line; column = position.column + 1 }

-- the position behind these characters
abbrev pub moved : List ℕ → SourcePosition → SourcePosition
moved [] position = position
moved (c ∷ cs) position = moved cs (position_behind c position)

-- the position one column past the last of these characters, where one is there
abbrev pub past : SourcePosition → SourcePosition → List ℕ → SourcePosition
past before position [] = before
past before position (c ∷ cs) = past (record { line = position.line; column = position.column + 1 }) (position_behind c position) cs

abbrev pub IsPositionBelow : SourcePosition → ℕ → Type 0
IsPositionBelow position n = (position.line < n) × (position.column < n)

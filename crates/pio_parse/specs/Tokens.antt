-- What the grammar says of tokens: the first of them, the names that they are, and the ends of lines (RP2040 Datasheet, 3.3).
use Rattle.std.specs.Prelude.{◌==◌, ◌&&◌, nat_le, ℕ, ◌-◌, Bool, true, false, if◌then◌else◌, List, [], ◌∷◌, Option, None, Some, length, slice_range}
use Rattle.source_text.specs.declared.position.SourcePosition.{SourcePosition}
use Rattle.pio_parse.specs.declared.token.Span.{Span}
use Rattle.pio_parse.specs.declared.token.Token.{Token}
use Rattle.pio_parse.specs.declared.token.TokenKind.{TokenKind}
use Rattle.pio_parse.specs.declared.token.TokenKind.TheVariants.{LineEnd, FileEnd}
use Rattle.pio_parse.specs.declared.syntax.Statement.{Statement}
use Rattle.pio_parse.specs.declared.syntax.Statement.TheVariants.{Program}

abbrev pub head_kind : List Token → TokenKind
head_kind [] = FileEnd
head_kind (token ∷ tokens) = token.kind

abbrev pub head_position : List Token → SourcePosition
head_position [] = record { line = 0; column = 0 }
head_position (token ∷ tokens) = token.position

-- the name that stands at a span of a file
abbrev pub name_at : List ℕ → Span → List ℕ
name_at text span = if nat_le span.start span.end && nat_le span.end (length text) then slice_range text span.start span.end else []

-- two positions beside each other on a line
abbrev pub are_together : SourcePosition → SourcePosition → Bool
are_together first second = (first.line == second.line) && (second.column - 1 == first.column)

-- a line ends so
abbrev pub is_end : TokenKind → Bool
is_end LineEnd = true
is_end FileEnd = true
is_end kind = false

-- a statement begins a program
abbrev pub is_program : Option Statement → Bool
is_program None = false
is_program (Some (Program name)) = true
is_program (Some statement) = false

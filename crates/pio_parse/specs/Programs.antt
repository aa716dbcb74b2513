-- A source: lines before the first program, then programs (RP2040 Datasheet, 3.3, Directives).
use Rattle.std.specs.Prelude.{ℕ, if◌then◌else◌, List, [], ◌∷◌, Option, None, Some}
use Rattle.pio_parse.specs.declared.token.Token.{Token}
use Rattle.pio_parse.specs.declared.syntax.Statement.{Statement}
use Rattle.pio_parse.specs.declared.syntax.Statement.TheVariants.{Program}
use Rattle.pio_parse.specs.declared.syntax.Line.{Line}
use Rattle.pio_parse.specs.declared.syntax.Source.{Source}
use Rattle.pio_parse.specs.Tokens.{is_end}

-- the lines of a file's tokens, each up to its end
abbrev pub with_first : Token → List (List Token) → List (List Token)
with_first token [] = []
with_first token (line ∷ lines) = (token ∷ line) ∷ lines

abbrev pub token_lines : List Token → List (List Token)
token_lines [] = []
token_lines (token ∷ tokens) = if is_end token.kind then (token ∷ []) ∷ token_lines tokens else with_first token (token_lines tokens)

-- a line with a label alone, if there is one
abbrev pub label_before : ℕ → Option (List ℕ) → List Line → List Line
label_before number None lines = lines
label_before number (Some label) lines = record { number = number; label = Some label; statement = None } ∷ lines

abbrev pub before_by : ℕ → Option (List ℕ) → Option Statement → Source → Source
before_by number label None source = record source { globals = label_before number label source.globals }
before_by number label (Some (Program name)) source =
    record { globals = label_before number label []; programs = record { name = name; number = number; lines = source.globals } ∷ source.programs }
before_by number label (Some statement) source = record source { globals = record { number = number; label = label; statement = Some statement } ∷ source.globals }

-- a source with one more line before it. `.program` makes a program of the lines up to the next one, and a label of its line stands before it.
-- A line without a label and a statement is left out
abbrev pub line_before : Line → Source → Source
line_before line source = before_by line.number line.label line.statement source

-- the source of lines
abbrev pub gathered : List Line → Source
gathered [] = record { globals = []; programs = [] }
gathered (line ∷ lines) = line_before line (gathered lines)

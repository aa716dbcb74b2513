-- How `parse` gathers lines: those before the first program, the programs that are over and the present one. It is the body's, and stands in no
-- definition; a proof says that it makes the source of the lines.
use Rattle.std.specs.Prelude.{ℕ, if◌then◌else◌, List, [], ◌∷◌, ◌++◌, Option, None, Some, is_some, option_to_list, Result, Ok}
use Rattle.source_text.specs.declared.position.SourcePosition.{SourcePosition}
use Rattle.pio_parse.specs.declared.token.Token.{Token}
use Rattle.pio_parse.specs.declared.syntax.Statement.{Statement}
use Rattle.pio_parse.specs.declared.syntax.Statement.TheVariants.{Program}
use Rattle.pio_parse.specs.declared.syntax.Line.{Line}
use Rattle.pio_parse.specs.declared.syntax.SourceProgram.{SourceProgram}
use Rattle.pio_parse.specs.declared.syntax.Source.{Source}
use Rattle.pio_parse.specs.declared.parser.Groups.{Groups}
use Rattle.source_text.specs.Outcome.{and_then, map_ok}
use Rattle.pio_parse.specs.Tokens.{is_end}
use Rattle.pio_parse.specs.descent.Statement.{line_at}

-- one more line of what is there
abbrev pub with_line_in : Line → Groups → Option SourceProgram → Groups
with_line_in line groups None = record groups { globals = groups.globals ++ line ∷ [] }
with_line_in line groups (Some program) = record groups { current = Some (record program { lines = program.lines ++ line ∷ [] }) }

abbrev pub with_line : Line → Groups → Groups
with_line line groups = with_line_in line groups groups.current

abbrev pub with_label : ℕ → Option (List ℕ) → Groups → Groups
with_label number None groups = groups
with_label number (Some label) groups = with_line (record { number = number; label = Some label; statement = None }) groups

abbrev pub with_new_program : ℕ → List ℕ → Groups → Groups
with_new_program number name groups =
    record { globals = groups.globals; programs = groups.programs ++ option_to_list groups.current; current = Some (record { name = name; number = number; lines = [] }) }

-- a program begins, and a label of its line is the last line of the program before it
abbrev pub with_program : ℕ → Option (List ℕ) → List ℕ → Groups → Groups
with_program number label name groups = with_new_program number name (with_label number label groups)

abbrev pub grouped_by : ℕ → Option (List ℕ) → Option Statement → Groups → Groups
grouped_by number label None groups = with_label number label groups
grouped_by number label (Some (Program name)) groups = with_program number label name groups
grouped_by number label (Some statement) groups = with_line (record { number = number; label = label; statement = Some statement }) groups

-- a line takes its place in its program. One without a label and a statement is left out
abbrev pub grouped : Groups → Line → Groups
grouped groups line = grouped_by line.number line.label line.statement groups

-- a line after others
abbrev pub line_step : List ℕ → Groups → List Token → Result Groups SourcePosition
line_step text groups tokens = map_ok (λ line. grouped groups line.0) (line_at text (is_some groups.current) tokens)

abbrev pub source_of_groups : Groups → Source
source_of_groups groups = record { globals = groups.globals; programs = groups.programs ++ option_to_list groups.current }

-- the source that goes on with these tokens, where `current` are the tokens of the line so far: a line goes up to its end
abbrev pub source_from : List ℕ → Groups → List Token → List Token → Result Source SourcePosition
source_from text groups current [] = Ok (source_of_groups groups)
source_from text groups current (token ∷ tokens) =
    if is_end token.kind
    then and_then (λ next. source_from text next [] tokens) (line_step text groups (current ++ token ∷ []))
    else source_from text groups (current ++ token ∷ []) tokens

abbrev pub no_groups : Groups
no_groups = record { globals = []; programs = []; current = None }

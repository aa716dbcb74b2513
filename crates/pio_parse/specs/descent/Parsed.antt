-- What `parse` makes of a file, step by step. The laws of grammar.rt say that it is what the grammar has.
use Rattle.std.specs.Prelude.{◌≡◌, ◌||◌, ℕ, Bool, false, List, [], ◌∷◌, Result, Ok, Err, ⊤}
use Rattle.source_text.specs.declared.position.SourcePosition.{SourcePosition}
use Rattle.pio_parse.specs.declared.token.Token.{Token}
use Rattle.pio_parse.specs.declared.syntax.Line.{Line}
use Rattle.pio_parse.specs.declared.syntax.Source.{Source}
use Rattle.pio_parse.specs.declared.fault.PioFault.{PioFault}
use Rattle.pio_parse.specs.declared.fault.PioFault.TheVariants.{Char, Syntax as SyntaxFault, Memory as MemoryFault}
use Rattle.source_text.specs.Outcome.{and_then, map_ok}
use Rattle.pio_parse.specs.descent.Scan.{scanned}
use Rattle.pio_parse.specs.Tokens.{is_program}
use Rattle.pio_parse.specs.Programs.{gathered, token_lines}
use Rattle.pio_parse.specs.Files.{EarlyFault}
use Rattle.pio_parse.specs.Files.EarlyFault.{CharAt, SyntaxAt}
use Rattle.pio_parse.specs.descent.Statement.{line_at}

-- the lines one after the other, or the position of the first token with which no line begins so; a program has begun, or not
abbrev pub lines_at : List ℕ → Bool → List (List Token) → Result (List Line) SourcePosition
lines_at text is_started [] = Ok []
lines_at text is_started (tokens ∷ others) = and_then
    (λ line. map_ok (λ lines. line.0 ∷ lines) (lines_at text (is_started || is_program line.0.statement) others))
    (line_at text is_started tokens)

-- the source of a file's tokens, or the position of the first token with which no line begins so
abbrev pub source_of : List ℕ → List Token → Result Source SourcePosition
source_of text tokens = map_ok gathered (lines_at text false (token_lines tokens))

abbrev pub with_syntax : Result Source SourcePosition → Result Source EarlyFault
with_syntax (Ok source) = Ok source
with_syntax (Err position) = Err (SyntaxAt position)

abbrev pub parsed_tokens : List ℕ → Result (List Token) SourcePosition → Result Source EarlyFault
parsed_tokens text (Ok tokens) = with_syntax (source_of text tokens)
parsed_tokens text (Err position) = Err (CharAt position)

-- the source that a file holds, or its first fault: the first of its characters, else the first of its tokens
abbrev pub parsed : List ℕ → Result Source EarlyFault
parsed text = parsed_tokens text (scanned text)

-- the fault of a file that is refused; memory may run out at any time
abbrev pub IsFaultOf : Result Source EarlyFault → PioFault → Type 0
IsFaultOf result (Char line column) = result ≡ Err (CharAt (record { line = line; column = column }))
IsFaultOf result (SyntaxFault line column) = result ≡ Err (SyntaxAt (record { line = line; column = column }))
IsFaultOf result MemoryFault = ⊤
IsFaultOf result fault = ⊥

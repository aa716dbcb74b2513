-- A whole PIO source by the grammar of its lines, and its first token that fits nothing (RP2040 Datasheet, 3.3).
use Rattle.std.specs.Prelude.{◌≡◌, ◌||◌, ℕ, Bool, false, List, [], ◌∷◌, ◌++◌, Result, Ok, Err, ⊤}
use Rattle.source_text.specs.declared.position.SourcePosition.{SourcePosition}
use Rattle.pio_parse.specs.declared.token.Token.{Token}
use Rattle.pio_parse.specs.declared.syntax.Line.{Line}
use Rattle.pio_parse.specs.declared.syntax.Source.{Source}
use Rattle.pio_parse.specs.declared.fault.PioFault.{PioFault}
use Rattle.pio_parse.specs.declared.fault.PioFault.TheVariants.{Char, Syntax, Memory}
use Rattle.pio_parse.specs.Lexical.{IsCharFaultAt, IsLexed}
use Rattle.pio_parse.specs.Programs.{gathered, token_lines}
use Rattle.pio_parse.specs.Tokens.{is_program}
use Rattle.pio_parse.specs.Lines.{BeginsLine, IsLine}

-- lines of the grammar one after the other, with what they say; a program has begun before them, or not
pub data AreLines (text : List ℕ) : Bool → List (List Token) → List Line → Type 0 where
  no_line : {started : Bool} → AreLines text started [] []
  one_line : {started : Bool} {tokens : List Token} {others : List (List Token)} {line : Line} {lines : List Line}
      → IsLine text started tokens line → AreLines text (started || is_program line.statement) others lines
      → AreLines text started (tokens ∷ others) (line ∷ lines)

-- a file's characters are lexemes, its tokens are lines, each up to its end, and the source is what the lines say
abbrev pub IsSource : List ℕ → Source → Type 0
IsSource text source = (tokens : List Token) × (lines : List Line)
    × IsLexed text tokens × AreLines text false (token_lines tokens) lines × (gathered lines ≡ source)

-- the first of these lines that is none of the grammar has its first token that fits nothing here: a line of the grammar begins as
-- this one does before the token, and none does with it
pub data FaultsAt (text : List ℕ) : Bool → List (List Token) → SourcePosition → Type 0 where
  fits_nothing : {started : Bool} {others : List (List Token)} (before : List Token) (token : Token) (after : List Token)
      → BeginsLine text started before → ¬ BeginsLine text started (before ++ token ∷ [])
      → FaultsAt text started ((before ++ token ∷ after) ∷ others) token.position
  after_line : {started : Bool} {tokens : List Token} {others : List (List Token)} {line : Line} {position : SourcePosition}
      → IsLine text started tokens line → FaultsAt text (started || is_program line.statement) others position
      → FaultsAt text started (tokens ∷ others) position

-- a file's characters are lexemes, and its first token that fits nothing is at this position
abbrev pub IsSyntaxFaultAt : List ℕ → SourcePosition → Type 0
IsSyntaxFaultAt text position = (tokens : List Token) × IsLexed text tokens × FaultsAt text false (token_lines tokens) position

-- the first fault that comes before a source has a meaning
pub data EarlyFault : Type 0 where
  CharAt : (position : SourcePosition) → EarlyFault
  SyntaxAt : (position : SourcePosition) → EarlyFault

-- what the grammar has a file to be: a source, or a file with its first fault, which is one of its characters, or else of its tokens
abbrev pub IsAnswer : List ℕ → Result Source EarlyFault → Type 0
IsAnswer text (Ok source) = IsSource text source
IsAnswer text (Err (CharAt position)) = IsCharFaultAt text position
IsAnswer text (Err (SyntaxAt position)) = IsSyntaxFaultAt text position

-- a reader of files: what it answers of each is what the grammar has it to be
pub record Reader : Type 0 where
  pub read : List ℕ → Result Source EarlyFault
  pub reads : (text : List ℕ) → IsAnswer text (read text)

-- the fault of a file that is refused; memory may run out at any time
abbrev pub IsFault : List ℕ → PioFault → Type 0
IsFault text (Char line column) = IsCharFaultAt text (record { line = line; column = column })
IsFault text (Syntax line column) = IsSyntaxFaultAt text (record { line = line; column = column })
IsFault text Memory = ⊤
IsFault text fault = ⊥

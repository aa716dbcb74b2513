-- What holds of the sources that are read (RP2040 Datasheet, 3.3): they are those of the grammar.
use Rattle.std.specs.Prelude.{◌≡◌, ◌↔◌, ◌&&◌, not, ℕ, Bool, true, false, List, [], ◌∷◌, ◌++◌, Some, Result, Ok, Err, codes}
use Rattle.pio_words.specs.declared.op.JmpCondition.TheVariants.{XDecrement}
use Rattle.source_text.specs.declared.position.SourcePosition.{SourcePosition}
use Rattle.pio_parse.specs.declared.token.Token.{Token}
use Rattle.pio_parse.specs.declared.expression.Term.TheVariants.{Number, Name}
use Rattle.pio_parse.specs.declared.syntax.Operation.TheVariants.{Jmp}
use Rattle.pio_parse.specs.declared.syntax.Statement.TheVariants.{Instruction}
use Rattle.pio_parse.specs.declared.syntax.Line.{Line}
use Rattle.pio_parse.specs.declared.syntax.Source.{Source}
use Rattle.pio_parse.specs.descent.Parsed.{parsed}
use Rattle.pio_parse.specs.Files.EarlyFault.{SyntaxAt}
use Rattle.pio_parse.specs.Tokens.{is_end}
use Rattle.pio_parse.specs.descent.Statement.{line_at}
use Rattle.pio_parse.specs.Lines.{BeginsLine, IsLine}
use Rattle.pio_parse.specs.Files.{EarlyFault, IsAnswer, IsSource, IsSyntaxFaultAt}

-- the tokens of one line: the last of them ends it, and no other ends one
abbrev pub is_line : List Token → Bool
is_line [] = false
is_line (token ∷ []) = is_end token.kind
is_line (token ∷ next ∷ tokens) = not (is_end token.kind) && is_line (next ∷ tokens)

-- a line that is read is one of the grammar, with what it says, and each line of the grammar is read as that
abbrev pub ReadsLines : Type 0
ReadsLines = (text : List ℕ) (started : Bool) (tokens : List Token) (line : Line) → is_line tokens ≡ true
    → (line_at text started tokens ≡ Ok (line, [])) ↔ IsLine text started tokens line

-- a line is refused at the first token with which no line of the grammar begins as the tokens up to it do
abbrev pub LineFaultsAtFirst : Type 0
LineFaultsAtFirst = (text : List ℕ) (started : Bool) (tokens : List Token) (position : SourcePosition) → is_line tokens ≡ true
    → (line_at text started tokens ≡ Err position)
    ↔ ((before : List Token) × (token : Token) × (after : List Token)
    × (tokens ≡ before ++ token ∷ after) × (token.position ≡ position)
    × BeginsLine text started before × ¬ BeginsLine text started (before ++ token ∷ []))

-- what is parsed is what the lines of the grammar say, and each file of lines of the grammar is parsed
abbrev pub ParsesGrammar : Type 0
ParsesGrammar = (text : List ℕ) (source : Source) → (parsed text ≡ Ok source) ↔ IsSource text source

-- a Syntax fault is at a file's first token with which no line of the grammar begins as its line does up to it
abbrev pub SyntaxFaultsAtFirst : Type 0
SyntaxFaultsAtFirst = (text : List ℕ) (position : SourcePosition) → (parsed text ≡ Err (SyntaxAt position)) ↔ IsSyntaxFaultAt text position

-- the grammar gives a line one meaning at most, and a file
abbrev pub OneMeaning : Type 0
OneMeaning =
    ((text : List ℕ) (started : Bool) (tokens : List Token) (line other : Line) → IsLine text started tokens line → IsLine text started tokens other → line ≡ other)
    × ((text : List ℕ) (source other : Source) → IsSource text source → IsSource text other → source ≡ other)

-- the grammar has one answer for each file: a source, or its first fault
abbrev pub OneAnswer : Type 0
OneAnswer = (text : List ℕ) (answer other : Result Source EarlyFault) → IsAnswer text answer → IsAnswer text other → answer ≡ other

-- a file has its first token that fits nothing at this line and column
abbrev pub FaultsIn : List ℕ → ℕ → ℕ → Type 0
FaultsIn text line column = IsSyntaxFaultAt text (record { line = line; column = column })

-- a file with a label, an instruction with a side-set value and a delay, and some files with a fault
abbrev pub Examples : Type 0
Examples =
    IsSource (codes ".program p\nl: jmp x-- l side 1 [2]\n")
    (record {
      globals = [];
      programs = record {
        name = codes "p";
        number = 1;
        lines = record {
          number = 2;
          label = Some (codes "l");
          statement = Some (Instruction (record { operation = Jmp XDecrement (Name (codes "l") ∷ []); side = Some (Number 1 ∷ []); delay = Some (Number 2 ∷ []) }));
        } ∷ [];
      } ∷ [];
    })
    -- no program: at the end of the file
    × FaultsIn [] 1 1
    × FaultsIn (codes "; x\n") 1 5
    -- a line before the first program
    × FaultsIn (codes "nop\n") 1 1
    -- a second instruction, a name that was a label, a condition that does not go on, signs that stand apart, two commas, an operator outside brackets
    × FaultsIn (codes ".program p\nnop nop\n") 2 5
    × FaultsIn (codes ".program p\nfoo bar\n") 2 5
    × FaultsIn (codes ".program p\njmp x 3\n") 2 7
    × FaultsIn (codes ".program p\njmp x- - 3\n") 2 8
    × FaultsIn (codes ".program p\nin x,, 3\n") 2 6
    × FaultsIn (codes ".program p\nset x 1+2\n") 2 8
    -- what is missing at the end of a line
    × FaultsIn (codes ".program p\nwait pin \n") 2 10

-- The programs of a PIO source file, and their listing (RP2040 Datasheet, 3.3; the listing is the project's own).
use Rattle.std.specs.Prelude.{ℕ, Bool, true, false, List, ◌++◌, length, Option, Some, None, Result, Ok, Err, codes, decimal, flat_map}
use Rattle.pio_words.specs.declared.side.SideConfig.{SideConfig}
use Rattle.pio_parse.specs.declared.syntax.Source.{Source}
use Rattle.pio_parse.specs.declared.fault.PioFault.{PioFault}
use Rattle.pio_parse.specs.declared.fault.PioFault.TheVariants.{Char, Syntax}
use Rattle.pio_parse.specs.Files.{EarlyFault}
use Rattle.pio_parse.proofs.Readers.{reader}
use Rattle.pio_parse.specs.Files.EarlyFault.{CharAt, SyntaxAt}
use Rattle.pio_asm.specs.Assembly.{Plan, assembled}
use Rattle.pio_program.specs.declared.program.Program.{Program}
use Rattle.pio_disasm.specs.Text.{hex_half}

-- ---- the programs of a file

-- a fault of characters or tokens, among all faults
abbrev pub early_fault : EarlyFault → PioFault
early_fault (CharAt position) = Char position.line position.column
early_fault (SyntaxAt position) = Syntax position.line position.column

abbrev pub plans_in : Result Source EarlyFault → Result (List Plan) PioFault
plans_in (Ok source) = assembled source
plans_in (Err fault) = Err (early_fault fault)

-- the programs of a file, or its first fault: the first of its characters, else of its tokens, else of its lines. Of the reader its type
-- alone counts: it answers what the grammar has (and no two do otherwise, by the law `one_answer`)
unfoldable pub plans_of : List ℕ → Result (List Plan) PioFault
plans_of bytes = plans_in (reader.read bytes)

-- ---- the listing

-- the address of a program that has one
abbrev pub origin_text : Option ℕ → List ℕ
origin_text None = codes "-"
origin_text (Some address) = decimal address

abbrev pub flag_text : Bool → List ℕ
flag_text true = codes "1"
flag_text false = codes "0"

abbrev pub wrap_text : ℕ → ℕ → List ℕ
wrap_text target wrap = codes " wrap " ++ decimal target ++ codes " " ++ decimal wrap

abbrev pub side_text : SideConfig → List ℕ
side_text side = codes " side " ++ decimal side.count ++ codes " opt " ++ flag_text side.opt ++ codes " pindirs " ++ flag_text side.pindirs

-- the line of a program: its name, its length, its origin, the addresses of its wrap, and its side-set
unfoldable pub program_line : Program → List ℕ
program_line program =
    codes "program " ++ program.name ++ codes " " ++ decimal (length program.words.items) ++ codes " origin " ++ origin_text program.origin
    ++ wrap_text program.target program.wrap ++ side_text program.side ++ codes "\n"

-- the line of a word, four hexadecimal digits
abbrev pub word_line : ℕ → List ℕ
word_line word = hex_half word ++ codes "\n"

-- a program: its line, then its words
abbrev pub program_text : Program → List ℕ
program_text program = program_line program ++ flat_map word_line program.words.items

-- the programs of a file, one after another
abbrev pub listing : List Program → List ℕ
listing programs = flat_map program_text programs

-- The programs that a source makes, or the source's first fault (RP2040 Datasheet, 3.3 PIO Assembler; program wrapping: 3.5.2).
-- The order in which faults are told is the project's own: the first line that has one, and on a line the least number.
use Rattle.std.specs.Prelude.{◌==◌, ◌≡◌, ℕ, ◌-◌, if◌then◌else◌, List, [], ◌∷◌, ◌++◌, length, Option, None, is_some, unwrap_or, Result, Ok, Err, IsOkAnd, ⊤}
use Rattle.pio_words.specs.declared.side.SideConfig.{SideConfig}
use Rattle.pio_parse.specs.declared.fault.PioFault.{PioFault}
use Rattle.pio_parse.specs.declared.fault.PioFault.TheVariants.{Memory, Twice, Wrap}
use Rattle.pio_parse.specs.declared.syntax.Line.{Line}
use Rattle.pio_parse.specs.declared.syntax.SourceProgram.{SourceProgram}
use Rattle.pio_parse.specs.declared.syntax.Source.{Source}
use Rattle.source_text.specs.Outcome.{and_then, map_ok}
use Rattle.pio_asm.specs.declared.plan.Member.{Member}
use Rattle.pio_asm.specs.declared.building.Building.{Building}
use Rattle.pio_program.specs.declared.program.Program.{Program}
use Rattle.source_text.specs.Symbols.{found, put}
use Rattle.pio_asm.specs.Symbols.{Names}
use Rattle.pio_asm.specs.Plan.{config_of}
use Rattle.pio_asm.specs.Code.{AreWordsOf}
use Rattle.pio_asm.specs.Step.{line_step, names_of}

-- a program that its lines make, one after the other, or the fault of the first line that has one
abbrev pub lines_from : Names → Names → ℕ → List Line → Building → Result Building PioFault
lines_from whole globals total [] b = Ok b
lines_from whole globals total (line ∷ lines) b = and_then (λ next. lines_from whole globals total lines next) (line_step whole globals total line b)

abbrev pub nothing_built : Building
nothing_built = record { seen = []; code = []; side = None; origin = None; target = None; wrap = None }

-- the lines of a program, whose instructions see the names of all of them
abbrev pub lines_of : Names → List Line → Names × ℕ → Result Building PioFault
lines_of globals lines names = lines_from names.0 globals names.1 lines nothing_built

-- what a program is: its name, its members, its origin, the addresses of its wrap, and its side-set
pub record Plan : Type 0 where
  pub name : List ℕ
  pub members : List Member
  pub origin : Option ℕ
  pub target : ℕ
  pub wrap : ℕ
  pub side : SideConfig

-- without `.wrap_target` and `.wrap` the first and the last instruction are named
abbrev pub plan_of : List ℕ → Building → Plan
plan_of name b = record {
  name = name;
  members = b.code;
  origin = b.origin;
  target = unwrap_or b.target 0;
  wrap = unwrap_or b.wrap (length b.code - 1);
  side = config_of b.side;
}

abbrev pub program_lines : Names → SourceProgram → Names × ℕ → Result Plan PioFault
program_lines globals program names = if names.1 == 0 then Err (Wrap program.number) else map_ok (plan_of program.name) (lines_of globals program.lines names)

-- a program, where programs of these names stand before it
abbrev pub program_plan : Names → Names → SourceProgram → Result Plan PioFault
program_plan globals taken program =
    if is_some (found program.name taken) then Err (Twice program.number) else program_lines globals program (names_of globals [] 0 program.lines)

abbrev pub programs_from : Names → Names → List Plan → List SourceProgram → Result (List Plan) PioFault
programs_from globals taken plans [] = Ok plans
programs_from globals taken plans (program ∷ programs) = and_then
    (λ plan. programs_from globals (put program.name None taken) (plans ++ plan ∷ []) programs)
    (program_plan globals taken program)

-- the programs of a source, or its first fault: of the first line that has one, the one with the least number
abbrev pub assembled : Source → Result (List Plan) PioFault
assembled source = and_then (λ globals. programs_from globals.seen [] [] source.programs) (lines_of [] source.globals (names_of [] [] 0 source.globals))

-- a program with its words
pub record IsProgram (plan : Plan) (program : Program) : Type 0 where
  pub name : program.name ≡ plan.name
  pub words : AreWordsOf plan.members program.words.items
  pub origin : program.origin ≡ plan.origin
  pub target : program.target ≡ plan.target
  pub wrap : program.wrap ≡ plan.wrap
  pub side : program.side ≡ plan.side

abbrev pub ArePrograms : List Plan → List Program → Type 0
ArePrograms [] [] = ⊤
ArePrograms [] (program ∷ programs) = ⊥
ArePrograms (plan ∷ plans) [] = ⊥
ArePrograms (plan ∷ plans) (program ∷ programs) = IsProgram plan program × ArePrograms plans programs

-- the programs of a source with their words
abbrev pub Assembles : List Program → Result (List Plan) PioFault → Type 0
Assembles programs outcome = IsOkAnd outcome (λ plans. ArePrograms plans programs)

-- the fault of a source that is refused; memory may run out at any time
abbrev pub IsFaultOf : {X : Type 0} → Result X PioFault → PioFault → Type 0
IsFaultOf outcome Memory = ⊤
IsFaultOf outcome fault = outcome ≡ Err fault

-- What a line of a program does: labels, directives and instructions (RP2040 Datasheet, 3.3, Directives, Labels and Instructions).
-- Which fault each case is, and that a definition sees earlier ones alone, is the project's own.
use Rattle.std.specs.Prelude.{◌==◌, ◌≡◌, ◌||◌, ℕ, ◌+◌, ◌-◌, nat_le, nat_lt, ℤ, pos, Bool, true, false, if◌then◌else◌, List, [], ◌∷◌, ◌++◌, length, Option, None, Some, is_some, is_none, unwrap_or, option_and_then, Result, Ok, Err, ⊤}
use Rattle.pio_words.specs.Operation.{bit}
use Rattle.pio_parse.specs.declared.expression.Term.{Term}
use Rattle.pio_parse.specs.declared.fault.PioFault.{PioFault}
use Rattle.pio_parse.specs.declared.fault.PioFault.TheVariants.{Memory}
use Rattle.pio_parse.specs.declared.syntax.Statement.{Statement}
use Rattle.pio_parse.specs.declared.syntax.Statement.TheVariants.{Program, Define, Origin, SideSet, WrapTarget, Wrap, Word, Instruction as InstructionStatement}
use Rattle.pio_parse.specs.declared.syntax.Instruction.{Instruction}
use Rattle.pio_parse.specs.declared.syntax.Line.{Line}
use Rattle.pio_asm.specs.declared.value.Evaluated.{Evaluated}
use Rattle.pio_asm.specs.declared.plan.Member.{Member}
use Rattle.pio_asm.specs.declared.plan.Member.TheVariants.{Word as WordMember, Lost}
use Rattle.pio_asm.specs.declared.plan.Judged.{Judged}
use Rattle.pio_asm.specs.declared.building.Building.{Building}
use Rattle.pio_asm.specs.declared.building.Verdict.{Verdict}
use Rattle.source_text.specs.Symbols.{put}
use Rattle.pio_asm.specs.Symbols.{Names}
use Rattle.pio_asm.specs.Value.{evaluated, value_in}
use Rattle.pio_asm.specs.Operand.{number_within}
use Rattle.pio_asm.specs.Plan.{instruction_in}
use Rattle.pio_asm.specs.Verdict.{no_fault, verdict_result}

-- a name is defined already where this line stands
abbrev pub is_seen : Names → Names → List ℕ → Bool
is_seen seen globals name = is_some (value_in seen globals name)

-- a name that is defined twice keeps its first value
abbrev pub with_name : Names → Names → List ℕ → Option ℤ → Names
with_name globals seen name value = if is_seen seen globals name then seen else put name value seen

-- a label is the number of instructions before it
abbrev pub label_value : ℕ → Option ℤ
label_value count = if nat_le count 4294967295 then Some (pos count) else None

abbrev pub with_label : Names → ℕ → Option (List ℕ) → Names → Names
with_label globals count None seen = seen
with_label globals count (Some label) seen = with_name globals seen label (label_value count)

abbrev pub is_label_twice : Names → Option (List ℕ) → Names → Bool
is_label_twice globals None seen = false
is_label_twice globals (Some label) seen = is_seen seen globals label

-- a definition with a fault has no value
abbrev pub definition_value : Evaluated → Option ℤ
definition_value e = if e.unknown || e.outside then None else e.value

abbrev pub with_definition : Names → Option Statement → Names → Names
with_definition globals None seen = seen
with_definition globals (Some (Define name value)) seen = with_name globals seen name (definition_value (evaluated seen globals value))
with_definition globals (Some statement) seen = seen

-- the names after a line: its label, which its own definition sees, then its definition
abbrev pub with_line_names : Names → ℕ → Line → Names → Names
with_line_names globals count line seen = with_definition globals line.statement (with_label globals count line.label seen)

-- an instruction or a `.word`
abbrev pub is_member : Option Statement → Bool
is_member None = false
is_member (Some (Word value)) = true
is_member (Some (InstructionStatement instruction)) = true
is_member (Some statement) = false

-- the names of whole lines, and how many members they have
abbrev pub names_of : Names → Names → ℕ → List Line → Names × ℕ
names_of globals seen count [] = (seen, count)
names_of globals seen count (line ∷ lines) = names_of globals (with_line_names globals count line seen) (if is_member line.statement then count + 1 else count) lines

-- a line with these faults ends so, or with this program
abbrev pub checked : ℕ → Verdict → Building → Result Building PioFault
checked number verdict next = after_check (verdict_result number verdict)
  where
    after_check : Result (Unit {0}) PioFault → Result Building PioFault
    after_check (Ok x) = Ok next
    after_check (Err fault) = Err fault

-- a value is known and does not fit
abbrev pub misfits : ℕ → ℕ → Option ℤ → Bool
misfits low high None = false
misfits low high (Some z) = is_none (number_within low high z)

abbrev pub fitting : ℕ → ℕ → Option ℤ → Option ℕ
fitting low high value = option_and_then (λ z. number_within low high z) value

-- .define name value
abbrev pub define_step : Names → ℕ → Bool → List ℕ → List Term → Building → Result Building PioFault
define_step globals number twice name value b =
    let e = evaluated b.seen globals value in
    checked number (record no_fault { unknown = e.unknown; twice = twice || is_seen b.seen globals name; range = e.outside })
    (record b { seen = with_name globals b.seen name (definition_value e) })

-- a program from this address on ends within the 32 addresses
abbrev pub ends_outside : ℕ → Option ℕ → Bool
ends_outside total None = false
ends_outside total (Some origin) = nat_lt (32 - origin) total

-- an origin is repeated, comes after an instruction, is no address, or is one from which the program ends outside
abbrev pub is_origin_fault : ℕ → Option ℤ → Building → Bool
is_origin_fault total value b = is_some b.origin || nat_lt 0 (length b.code) || misfits 0 31 value || ends_outside total (fitting 0 31 value)

-- .origin address
abbrev pub origin_step : Names → ℕ → ℕ → Bool → List Term → Building → Result Building PioFault
origin_step globals total number twice value b =
    let e = evaluated b.seen globals value in
    checked number (record no_fault { unknown = e.unknown; twice = twice; range = e.outside; origin = is_origin_fault total e.value b })
    (record b { origin = fitting 0 31 e.value })

-- .side_set count [opt] [pindirs]
abbrev pub side_set_step : Names → ℕ → Bool → List Term → Bool → Bool → Building → Result Building PioFault
side_set_step globals number twice count opt pindirs b =
    let e = evaluated b.seen globals count in
    checked number (record no_fault {
      unknown = e.unknown;
      twice = twice;
      range = e.outside;
      side = is_some b.side || nat_lt 0 (length b.code) || misfits 0 (5 - bit opt) e.value;
    })
    (record b { side = Some (record { count = unwrap_or (fitting 0 (5 - bit opt) e.value) 0; opt = opt; pindirs = pindirs }) })

-- .wrap_target names the next instruction
abbrev pub target_step : ℕ → ℕ → Bool → Building → Result Building PioFault
target_step total number twice b =
    checked number (record no_fault { twice = twice; wrap = is_some b.target || nat_le total (length b.code) }) (record b { target = Some (length b.code) })

-- .wrap names the instruction before it
abbrev pub wrap_step : ℕ → Bool → Building → Result Building PioFault
wrap_step number twice b =
    checked number (record no_fault { twice = twice; wrap = is_some b.wrap || length b.code == 0 }) (record b { wrap = Some (length b.code - 1) })

abbrev pub word_member : Option ℕ → Member
word_member None = Lost
word_member (Some n) = WordMember n

-- .word value
abbrev pub word_step : Names → ℕ → Bool → List Term → Building → Result Building PioFault
word_step globals number twice value b =
    let e = evaluated b.seen globals value in
    checked number (record no_fault { unknown = e.unknown; twice = twice; range = e.outside || misfits 0 65535 e.value; too_long = nat_le 32 (length b.code) })
    (record b { code = b.code ++ word_member (fitting 0 65535 e.value) ∷ [] })

abbrev pub instruction_verdict : Bool → Bool → Judged → Verdict
instruction_verdict twice is_full j =
    record no_fault { unknown = j.unknown; twice = twice; range = j.range; delay = j.delay; side = j.side; too_long = is_full }

-- an instruction, whose operands see the whole program's names
abbrev pub instruction_step : Names → Names → ℕ → Bool → Instruction → Building → Result Building PioFault
instruction_step whole globals number twice instruction b =
    let j = instruction_in whole globals b.side instruction in
    checked number (instruction_verdict twice (nat_le 32 (length b.code)) j) (record b { code = b.code ++ j.member ∷ [] })

abbrev pub statement_step : Names → Names → ℕ → ℕ → Bool → Option Statement → Building → Result Building PioFault
statement_step whole globals total number twice None b = checked number (record no_fault { twice = twice }) b
statement_step whole globals total number twice (Some (Program name)) b = checked number (record no_fault { twice = twice }) b
statement_step whole globals total number twice (Some (Define name value)) b = define_step globals number twice name value b
statement_step whole globals total number twice (Some (Origin value)) b = origin_step globals total number twice value b
statement_step whole globals total number twice (Some (SideSet count opt pindirs)) b = side_set_step globals number twice count opt pindirs b
statement_step whole globals total number twice (Some WrapTarget) b = target_step total number twice b
statement_step whole globals total number twice (Some Wrap) b = wrap_step number twice b
statement_step whole globals total number twice (Some (Word value)) b = word_step globals number twice value b
statement_step whole globals total number twice (Some (InstructionStatement instruction)) b = instruction_step whole globals number twice instruction b

-- a line of a program, after its label
abbrev pub line_step : Names → Names → ℕ → Line → Building → Result Building PioFault
line_step whole globals total line b =
    statement_step whole globals total line.number (is_label_twice globals line.label b.seen) line.statement
    (record b { seen = with_label globals (length b.code) line.label b.seen })

-- a call made this program of another, or found its first fault; memory may run out at any time
abbrev pub Makes : Result (Unit {0}) PioFault → Building → Result Building PioFault → Type 0
Makes (Ok x) next outcome = outcome ≡ Ok next
Makes (Err Memory) next outcome = ⊤
Makes (Err fault) next outcome = outcome ≡ Err fault

-- What an instruction makes: its operation, its side-set value and its delay, with the faults that it has by itself
-- (RP2040 Datasheet, 3.4; side-set: 3.5.1). A side-set and a delay share five bits (3.4.1).
use Rattle.std.specs.Prelude.{◌==◌, ◌≡◌, ◌||◌, ◌&&◌, not, ℕ, ◌+◌, ◌-◌, ◌^◌, ◌≤◌, Bool, true, false, if◌then◌else◌, List, Option, None, Some, option_map, option_and_then, is_some, ◌<◌, ⊤}
use Rattle.pio_words.specs.declared.op.WaitSource.{WaitSource}
use Rattle.pio_words.specs.declared.op.WaitSource.TheVariants.{Gpio, Pin, Irq as WaitFlag}
use Rattle.pio_words.specs.declared.op.PioOp.{PioOp}
use Rattle.pio_words.specs.declared.op.PioOp.TheVariants.{Jmp as JmpOp, Wait as WaitOp, In as InOp, Out as OutOp, Push as PushOp, Pull as PullOp, Mov as MovOp, Irq as IrqOp, Set as SetOp}
use Rattle.pio_words.specs.declared.side.SideConfig.{SideConfig}
use Rattle.pio_words.specs.Operation.{bit}
use Rattle.pio_words.specs.Word.{IsWord}
use Rattle.pio_parse.specs.declared.expression.Term.{Term}
use Rattle.pio_parse.specs.declared.syntax.Operation.{Operation}
use Rattle.pio_parse.specs.declared.syntax.Operation.TheVariants.{Jmp, WaitGpio, WaitPin, WaitIrq, In, Out, Push, Pull, Mov, Irq, Set}
use Rattle.pio_parse.specs.declared.syntax.Instruction.{Instruction}
use Rattle.pio_asm.specs.declared.operand.Field.{Field}
use Rattle.pio_asm.specs.declared.operand.Modifier.{Modifier}
use Rattle.pio_asm.specs.declared.plan.Member.{Member}
use Rattle.pio_asm.specs.declared.plan.Member.TheVariants.{Word, Coded, Lost}
use Rattle.pio_asm.specs.declared.plan.Planned.{Planned}
use Rattle.pio_asm.specs.declared.plan.Judged.{Judged}
use Rattle.pio_asm.specs.Symbols.{Names}
use Rattle.pio_asm.specs.Fits.{FitsSide, IsInRange}
use Rattle.pio_asm.specs.Operand.{field_in, modifier_in, polarity_in}

abbrev pub planned_of : Option PioOp → Field → Planned
planned_of op field = record { op = op; unknown = field.unknown; range = field.range }

abbrev pub sure_op : PioOp → Planned
sure_op op = record { op = Some op; unknown = false; range = false }

abbrev pub waited : Field → Option WaitSource → Field → Planned
waited polarity source number = record {
  op = option_and_then (λ p. option_map (λ s. WaitOp (p == 1) s) source) polarity.value;
  unknown = polarity.unknown || number.unknown;
  range = polarity.range || number.range;
}

abbrev pub planned_by : (ℕ → PioOp) → Field → Planned
planned_by op field = planned_of (option_map op field.value) field

abbrev pub waited_for : (ℕ → WaitSource) → Field → Field → Planned
waited_for source polarity number = waited polarity (option_map source number.value) number

-- the operation of an instruction. The ranges are those of the fields: a target, a GPIO, a pin and a value of `set` are 0 to 31, an
-- interrupt flag is 0 to 7, a count is 1 to 32 and a polarity 0 or 1 (RP2040 Datasheet, 3.4)
abbrev pub operation_in : Names → Names → Operation → Planned
operation_in locals globals (Jmp condition target) = planned_by (λ n. JmpOp condition n) (field_in locals globals 0 31 target)
operation_in locals globals (WaitGpio polarity number) = waited_for (λ n. Gpio n) (polarity_in locals globals polarity) (field_in locals globals 0 31 number)
operation_in locals globals (WaitPin polarity number) = waited_for (λ n. Pin n) (polarity_in locals globals polarity) (field_in locals globals 0 31 number)
operation_in locals globals (WaitIrq polarity number relative) =
    waited_for (λ n. WaitFlag (record { number = n; relative = relative })) (polarity_in locals globals polarity) (field_in locals globals 0 7 number)
operation_in locals globals (In source count) = planned_by (λ n. InOp source n) (field_in locals globals 1 32 count)
operation_in locals globals (Out destination count) = planned_by (λ n. OutOp destination n) (field_in locals globals 1 32 count)
operation_in locals globals (Push if_full block) = sure_op (PushOp if_full block)
operation_in locals globals (Pull if_empty block) = sure_op (PullOp if_empty block)
operation_in locals globals (Mov destination operation source) = sure_op (MovOp destination operation source)
operation_in locals globals (Irq clear wait number relative) =
    planned_by (λ n. IrqOp clear wait (record { number = n; relative = relative })) (field_in locals globals 0 7 number)
operation_in locals globals (Set destination value) = planned_by (λ n. SetOp destination n) (field_in locals globals 0 31 value)

-- a side-set takes at most the five bits that it shares with the delay
abbrev pub IsConfig : SideConfig → Type 0
IsConfig config = config.count + bit config.opt ≤ 5

abbrev pub delay_bits : SideConfig → ℕ
delay_bits config = 5 - (config.count + bit config.opt)

-- the greatest number of so many bits
abbrev pub greatest : ℕ → ℕ
greatest bits = 2 ^ bits - 1

abbrev pub no_modifier : Modifier
no_modifier = record { value = 0; lost = false; unknown = false; outside = false; fault = false }

abbrev pub with_fault : Modifier → Bool → Modifier
with_fault modifier fault = record modifier { fault = fault }

-- a program without a side-set
abbrev pub config_of : Option SideConfig → SideConfig
config_of None = record { count = 0; opt = false; pindirs = false }
config_of (Some config) = config

-- the side-set value of an instruction: with a side-set, each instruction has one unless it is optional, and without one none has
abbrev pub side_modifier_in : Names → Names → Option SideConfig → Option (List Term) → Modifier
side_modifier_in locals globals None None = no_modifier
side_modifier_in locals globals None (Some terms) = with_fault (modifier_in locals globals 0 terms) true
side_modifier_in locals globals (Some config) None = with_fault no_modifier (not config.opt)
side_modifier_in locals globals (Some config) (Some terms) = modifier_in locals globals (greatest config.count) terms

-- the delay of an instruction, 0 where none is written
abbrev pub delay_modifier_in : Names → Names → SideConfig → Option (List Term) → Modifier
delay_modifier_in locals globals config None = no_modifier
delay_modifier_in locals globals config (Some terms) = modifier_in locals globals (greatest (delay_bits config)) terms

-- the value that the word has, if it has bits for one
abbrev pub side_value_of : SideConfig → Bool → ℕ → Option ℕ
side_value_of config given value = if given && (config.opt || not (config.count == 0)) then Some value else None

abbrev pub member_of : SideConfig → Bool → Option PioOp → Modifier → Modifier → Member
member_of config given None side delay = Lost
member_of config given (Some op) side delay = if side.lost || delay.lost then Lost else Coded op config (side_value_of config given side.value) delay.value

abbrev pub judged_of : SideConfig → Bool → Planned → Modifier → Modifier → Judged
judged_of config given planned side delay = record {
  member = member_of config given planned.op side delay;
  unknown = planned.unknown || side.unknown || delay.unknown;
  range = planned.range || side.outside || delay.outside;
  delay = delay.fault;
  side = side.fault;
}

-- an instruction with the faults that it has by itself
abbrev pub instruction_in : Names → Names → Option SideConfig → Instruction → Judged
instruction_in locals globals config instruction = judged_of (config_of config) (is_some instruction.side) (operation_in locals globals instruction.operation)
    (side_modifier_in locals globals config instruction.side) (delay_modifier_in locals globals (config_of config) instruction.delay)

-- a member has a word
abbrev pub IsSound : Member → Type 0
IsSound (Word n) = n < 65536
IsSound (Coded op side value delay) = IsInRange op × FitsSide side value delay
IsSound Lost = ⊤

abbrev pub IsOptionalConfig : Option SideConfig → Type 0
IsOptionalConfig None = ⊤
IsOptionalConfig (Some config) = IsConfig config

-- the word of a member: a `.word` value stands for itself, and an operation has its word with its side-set value and its delay.
-- A lost member has no word, so no program has one
abbrev pub StandsFor : Member → ℕ → Type 0
StandsFor (Word n) word = word ≡ n
StandsFor (Coded op side value delay) word = IsWord op side value delay word
StandsFor Lost word = ⊥

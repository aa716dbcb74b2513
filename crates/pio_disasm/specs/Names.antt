-- The words of the source language for the fields of an instruction (RP2040 Datasheet, 3.4.2 to 3.4.10, Assembler Syntax).
use Rattle.std.specs.Prelude.{ℕ, List, [], codes}
use Rattle.pio_words.specs.declared.op.JmpCondition.{JmpCondition}
use Rattle.pio_words.specs.declared.op.JmpCondition.TheVariants.{Always as JmpConditionAlways, XZero as JmpConditionXZero, XDecrement as JmpConditionXDecrement, YZero as JmpConditionYZero, YDecrement as JmpConditionYDecrement, XNotY as JmpConditionXNotY, Pin as JmpConditionPin, OsrNotEmpty as JmpConditionOsrNotEmpty}
use Rattle.pio_words.specs.declared.op.InSource.{InSource}
use Rattle.pio_words.specs.declared.op.InSource.TheVariants.{Pins as InSourcePins, X as InSourceX, Y as InSourceY, Null as InSourceNull, Isr as InSourceIsr, Osr as InSourceOsr}
use Rattle.pio_words.specs.declared.op.OutDestination.{OutDestination}
use Rattle.pio_words.specs.declared.op.OutDestination.TheVariants.{Pins as OutDestinationPins, X as OutDestinationX, Y as OutDestinationY, Null as OutDestinationNull, Pindirs as OutDestinationPindirs, Pc as OutDestinationPc, Isr as OutDestinationIsr, Exec as OutDestinationExec}
use Rattle.pio_words.specs.declared.op.MovDestination.{MovDestination}
use Rattle.pio_words.specs.declared.op.MovDestination.TheVariants.{Pins as MovDestinationPins, X as MovDestinationX, Y as MovDestinationY, Exec as MovDestinationExec, Pc as MovDestinationPc, Isr as MovDestinationIsr, Osr as MovDestinationOsr}
use Rattle.pio_words.specs.declared.op.MovSource.{MovSource}
use Rattle.pio_words.specs.declared.op.MovSource.TheVariants.{Pins as MovSourcePins, X as MovSourceX, Y as MovSourceY, Null as MovSourceNull, Status as MovSourceStatus, Isr as MovSourceIsr, Osr as MovSourceOsr}
use Rattle.pio_words.specs.declared.op.SetDestination.{SetDestination}
use Rattle.pio_words.specs.declared.op.SetDestination.TheVariants.{Pins as SetDestinationPins, X as SetDestinationX, Y as SetDestinationY, Pindirs as SetDestinationPindirs}
use Rattle.pio_words.specs.declared.op.MovOperation.{MovOperation}
use Rattle.pio_words.specs.declared.op.MovOperation.TheVariants.{Plain as MovOperationPlain, Invert as MovOperationInvert, Reverse as MovOperationReverse}

-- the condition of `jmp`, before its target
abbrev pub condition_name : JmpCondition → List ℕ
condition_name JmpConditionAlways = []
condition_name JmpConditionXZero = codes "!x "
condition_name JmpConditionXDecrement = codes "x-- "
condition_name JmpConditionYZero = codes "!y "
condition_name JmpConditionYDecrement = codes "y-- "
condition_name JmpConditionXNotY = codes "x!=y "
condition_name JmpConditionPin = codes "pin "
condition_name JmpConditionOsrNotEmpty = codes "!osre "

-- the source of `in`
abbrev pub in_source_name : InSource → List ℕ
in_source_name InSourcePins = codes "pins"
in_source_name InSourceX = codes "x"
in_source_name InSourceY = codes "y"
in_source_name InSourceNull = codes "null"
in_source_name InSourceIsr = codes "isr"
in_source_name InSourceOsr = codes "osr"

-- the destination of `out`
abbrev pub out_destination_name : OutDestination → List ℕ
out_destination_name OutDestinationPins = codes "pins"
out_destination_name OutDestinationX = codes "x"
out_destination_name OutDestinationY = codes "y"
out_destination_name OutDestinationNull = codes "null"
out_destination_name OutDestinationPindirs = codes "pindirs"
out_destination_name OutDestinationPc = codes "pc"
out_destination_name OutDestinationIsr = codes "isr"
out_destination_name OutDestinationExec = codes "exec"

-- the destination of `mov`
abbrev pub mov_destination_name : MovDestination → List ℕ
mov_destination_name MovDestinationPins = codes "pins"
mov_destination_name MovDestinationX = codes "x"
mov_destination_name MovDestinationY = codes "y"
mov_destination_name MovDestinationExec = codes "exec"
mov_destination_name MovDestinationPc = codes "pc"
mov_destination_name MovDestinationIsr = codes "isr"
mov_destination_name MovDestinationOsr = codes "osr"

-- the source of `mov`
abbrev pub mov_source_name : MovSource → List ℕ
mov_source_name MovSourcePins = codes "pins"
mov_source_name MovSourceX = codes "x"
mov_source_name MovSourceY = codes "y"
mov_source_name MovSourceNull = codes "null"
mov_source_name MovSourceStatus = codes "status"
mov_source_name MovSourceIsr = codes "isr"
mov_source_name MovSourceOsr = codes "osr"

-- the destination of `set`
abbrev pub set_destination_name : SetDestination → List ℕ
set_destination_name SetDestinationPins = codes "pins"
set_destination_name SetDestinationX = codes "x"
set_destination_name SetDestinationY = codes "y"
set_destination_name SetDestinationPindirs = codes "pindirs"

-- the operation of `mov`, directly before its source
abbrev pub mov_operation_name : MovOperation → List ℕ
mov_operation_name MovOperationPlain = []
mov_operation_name MovOperationInvert = codes "!"
mov_operation_name MovOperationReverse = codes "::"

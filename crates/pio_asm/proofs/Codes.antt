use Rattle.std.proofs.Common.{◌≡◌, ℕ, ◌<◌, List, Option, Some, refl, lit<}
use Rattle.pio_asm.proofs.Shared.{entry, JmpCondition, Always as JmpConditionAlways, XZero as JmpConditionXZero, XDecrement as JmpConditionXDecrement, YZero as JmpConditionYZero, YDecrement as JmpConditionYDecrement, XNotY as JmpConditionXNotY, PinHigh as JmpConditionPin, OsrNotEmpty as JmpConditionOsrNotEmpty, conditions, InSource, InPins as InSourcePins, InX as InSourceX, InY as InSourceY, InNull as InSourceNull, InIsr as InSourceIsr, InOsr as InSourceOsr, in_sources, OutDestination, OutPins as OutDestinationPins, OutX as OutDestinationX, OutY as OutDestinationY, OutNull as OutDestinationNull, OutPindirs as OutDestinationPindirs, OutPc as OutDestinationPc, OutIsr as OutDestinationIsr, OutExec as OutDestinationExec, out_destinations, MovDestination, ToPins as MovDestinationPins, ToX as MovDestinationX, ToY as MovDestinationY, ToExec as MovDestinationExec, ToPc as MovDestinationPc, ToIsr as MovDestinationIsr, ToOsr as MovDestinationOsr, mov_destinations, MovOperation, Plain as MovOperationPlain, Invert as MovOperationInvert, Reverse as MovOperationReverse, mov_operations, MovSource, FromPins as MovSourcePins, FromX as MovSourceX, FromY as MovSourceY, FromNull as MovSourceNull, FromStatus as MovSourceStatus, FromIsr as MovSourceIsr, FromOsr as MovSourceOsr, mov_sources, SetDestination, SetPins as SetDestinationPins, SetX as SetDestinationX, SetY as SetDestinationY, SetPindirs as SetDestinationPindirs, set_destinations}

-- a name stands in a table of fewer than so many entries
pub record HasCode {X : Type 0} (table : List (Option X)) (bound : ℕ) (x : X) : Type 0 where
  pub code : ℕ
  pub stands : entry table code ≡ Some x
  pub small : code < bound

pub conditions-code : (x : JmpCondition) → HasCode conditions 8 x
conditions-code JmpConditionAlways = record { code = 0; stands = refl; small = lit< tt }
conditions-code JmpConditionXZero = record { code = 1; stands = refl; small = lit< tt }
conditions-code JmpConditionXDecrement = record { code = 2; stands = refl; small = lit< tt }
conditions-code JmpConditionYZero = record { code = 3; stands = refl; small = lit< tt }
conditions-code JmpConditionYDecrement = record { code = 4; stands = refl; small = lit< tt }
conditions-code JmpConditionXNotY = record { code = 5; stands = refl; small = lit< tt }
conditions-code JmpConditionPin = record { code = 6; stands = refl; small = lit< tt }
conditions-code JmpConditionOsrNotEmpty = record { code = 7; stands = refl; small = lit< tt }

pub in_sources-code : (x : InSource) → HasCode in_sources 8 x
in_sources-code InSourcePins = record { code = 0; stands = refl; small = lit< tt }
in_sources-code InSourceX = record { code = 1; stands = refl; small = lit< tt }
in_sources-code InSourceY = record { code = 2; stands = refl; small = lit< tt }
in_sources-code InSourceNull = record { code = 3; stands = refl; small = lit< tt }
in_sources-code InSourceIsr = record { code = 6; stands = refl; small = lit< tt }
in_sources-code InSourceOsr = record { code = 7; stands = refl; small = lit< tt }

pub out_destinations-code : (x : OutDestination) → HasCode out_destinations 8 x
out_destinations-code OutDestinationPins = record { code = 0; stands = refl; small = lit< tt }
out_destinations-code OutDestinationX = record { code = 1; stands = refl; small = lit< tt }
out_destinations-code OutDestinationY = record { code = 2; stands = refl; small = lit< tt }
out_destinations-code OutDestinationNull = record { code = 3; stands = refl; small = lit< tt }
out_destinations-code OutDestinationPindirs = record { code = 4; stands = refl; small = lit< tt }
out_destinations-code OutDestinationPc = record { code = 5; stands = refl; small = lit< tt }
out_destinations-code OutDestinationIsr = record { code = 6; stands = refl; small = lit< tt }
out_destinations-code OutDestinationExec = record { code = 7; stands = refl; small = lit< tt }

pub mov_destinations-code : (x : MovDestination) → HasCode mov_destinations 8 x
mov_destinations-code MovDestinationPins = record { code = 0; stands = refl; small = lit< tt }
mov_destinations-code MovDestinationX = record { code = 1; stands = refl; small = lit< tt }
mov_destinations-code MovDestinationY = record { code = 2; stands = refl; small = lit< tt }
mov_destinations-code MovDestinationExec = record { code = 4; stands = refl; small = lit< tt }
mov_destinations-code MovDestinationPc = record { code = 5; stands = refl; small = lit< tt }
mov_destinations-code MovDestinationIsr = record { code = 6; stands = refl; small = lit< tt }
mov_destinations-code MovDestinationOsr = record { code = 7; stands = refl; small = lit< tt }

pub mov_operations-code : (x : MovOperation) → HasCode mov_operations 3 x
mov_operations-code MovOperationPlain = record { code = 0; stands = refl; small = lit< tt }
mov_operations-code MovOperationInvert = record { code = 1; stands = refl; small = lit< tt }
mov_operations-code MovOperationReverse = record { code = 2; stands = refl; small = lit< tt }

pub mov_sources-code : (x : MovSource) → HasCode mov_sources 8 x
mov_sources-code MovSourcePins = record { code = 0; stands = refl; small = lit< tt }
mov_sources-code MovSourceX = record { code = 1; stands = refl; small = lit< tt }
mov_sources-code MovSourceY = record { code = 2; stands = refl; small = lit< tt }
mov_sources-code MovSourceNull = record { code = 3; stands = refl; small = lit< tt }
mov_sources-code MovSourceStatus = record { code = 5; stands = refl; small = lit< tt }
mov_sources-code MovSourceIsr = record { code = 6; stands = refl; small = lit< tt }
mov_sources-code MovSourceOsr = record { code = 7; stands = refl; small = lit< tt }

pub set_destinations-code : (x : SetDestination) → HasCode set_destinations 8 x
set_destinations-code SetDestinationPins = record { code = 0; stands = refl; small = lit< tt }
set_destinations-code SetDestinationX = record { code = 1; stands = refl; small = lit< tt }
set_destinations-code SetDestinationY = record { code = 2; stands = refl; small = lit< tt }
set_destinations-code SetDestinationPindirs = record { code = 4; stands = refl; small = lit< tt }

-- A cycle of a block (RP2040 Datasheet, 3.2 and 3.5.6): its machines step side by side, and what they write to pins and flags
-- is joined.
use Rattle.std.specs.Prelude.{ℕ, ◌+◌, ◌/◌, ◌%◌, ◌^◌, if◌then◌else◌, List, [], ◌∷◌, Option, Some, None, bit_or}
use Rattle.lane_look.specs.declared.lane.Want.{Want}
use Rattle.lane_look.specs.declared.lane.Want.TheVariants as want
use Rattle.lane_look.specs.Asking.{Asking}
use Rattle.lane_look.specs.Asking.Asking.{Ready, Question}
use Rattle.lane_look.specs.declared.lane.Ask.TheVariants as asked
use Rattle.pio_machine.specs.declared.machine.Machine1.{Machine1}
use Rattle.pio_machine.specs.declared.machine.Seen.{Seen}
use Rattle.pio_machine.specs.declared.machine.Done.{Done}
use Rattle.pio_machine.specs.Start.{nothing_done}
use Rattle.pio_machine.specs.Pins.{overlaid}
use Rattle.pio_machine.specs.Cycle as machine
use Rattle.pio_block.specs.declared.inputs.Inputs.{Inputs}
use Rattle.pio_block.specs.State.{State, each, is_busy, without}

-- what the machines see: the words now and second of the inputs
abbrev pub seen_by : ℕ → ℕ → State → Seen
seen_by now second s = record { memory = s.memory; inputs = now ∷ second ∷ []; bypass = s.bypass; flags = s.flags }

-- what they write, from the one of the lowest number on: a later write to a pin wins
abbrev pub written_from : ℕ → Seen → List Machine1 → Done → Done
written_from n seen [] d = d
written_from n seen (m ∷ ms) d = written_from (n + 1) seen ms (machine.written_in_cycle n seen m d)

unfoldable pub all_written : Seen → List Machine1 → Done
all_written seen ms = written_from 0 seen ms nothing_done

unfoldable pub all_stepped : Seen → List Machine1 → List Machine1
all_stepped seen ms = each (λ n m. machine.after_cycle n seen m) ms

-- flags are cleared, and then set; pins that nobody writes stay
unfoldable pub joined : Done → State → State
joined d s = record s {
  flags = bit_or (without s.flags d.clear) d.set;
  levels = overlaid d.level_mask d.levels s.levels;
  enables = overlaid d.enable_mask d.enables s.enables;
}

abbrev pub with_stepped : Seen → State → State
with_stepped seen s = record s { machines = all_stepped seen s.machines }

unfoldable pub after_cycle : ℕ → ℕ → State → State
after_cycle now second s =
    joined (all_written (seen_by now second s) s.machines) (with_stepped (seen_by now second s) s)

-- ---- the block as a lane

-- the two input words of one answer
abbrev pub inputs_of : ℕ → Inputs
inputs_of answer = record { now = answer % 2 ^ 32; second = answer / 2 ^ 32 % 2 ^ 32 }

-- the inputs are asked for where the block steps
unfoldable pub asks : State → Asking (Option Inputs)
asks s = if is_busy s then Question asked.Inputs (λ x. Ready (Some (inputs_of x))) else Ready None

abbrev pub wanted : List Want
wanted = want.Nothing ∷ want.Nothing ∷ []

unfoldable pub next : Option Inputs → State → State
next None s = s
next (Some inputs) s = after_cycle inputs.now inputs.second s

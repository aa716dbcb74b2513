-- How far a word has come that stalls (RP2040 Datasheet, 3.4.9 and 3.5.4): IRQ with Wait raises its flag once, and IN shifts
-- once, however often they are tried. The word at PC and the word that waits have each their own memory of it.
use Rattle.std.specs.Prelude.{ℕ, true, false, Option, Some, None}
use Rattle.pio_machine.specs.declared.machine.Machine1.{Machine1}
use Rattle.pio_machine.specs.declared.machine.Progress.{Progress}
use Rattle.pio_machine.specs.declared.machine.Waiting.{Waiting}

-- a word that was not tried yet has done nothing
abbrev pub untried : Progress
untried = record { raised = false; shifted = false }

-- a word that was written to INSTR (3.5.7), or was given by OUT EXEC or MOV EXEC, begins anew
abbrev pub forced : ℕ → Waiting
forced word = record { word = word; forced = true; progress = untried }

abbrev pub executed : ℕ → Waiting
executed word = record { word = word; forced = false; progress = untried }

-- the word that is tried is the one that waits, and where none does the one at PC
abbrev pub progress_in : Option Waiting → Machine1 → Progress
progress_in None m = m.progress
progress_in (Some w) m = w.progress

abbrev pub progress_of : Machine1 → Progress
progress_of m = progress_in m.waiting m

abbrev pub kept_in : Option Waiting → Progress → Machine1 → Machine1
kept_in None p m = record m { progress = p }
kept_in (Some w) p m = record m { waiting = Some (record w { progress = p }) }

abbrev pub with_progress : Progress → Machine1 → Machine1
with_progress p m = kept_in m.waiting p m

abbrev pub with_raised : Machine1 → Machine1
with_raised m = with_progress (record (progress_of m) { raised = true }) m

abbrev pub with_shifted : Machine1 → Machine1
with_shifted m = with_progress (record (progress_of m) { shifted = true }) m

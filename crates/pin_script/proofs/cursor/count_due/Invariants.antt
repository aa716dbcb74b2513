use Rattle.std.proofs.Common.{◌≤◌, ◌-◌, length}
use Rattle.pin_script.specs.Reading.{IsDueBefore}
use Rattle.pin_script.proofs.cursor.count_due.Given as goal

abbrev pub invariant-loop-due : goal.invariant-loop-due
invariant-loop-due l = (l.due ≤ length l.entries) × IsDueBefore l.entries l.cycle l.due

abbrev pub decreases-loop-due : goal.decreases-loop-due
decreases-loop-due l = length l.entries - l.due

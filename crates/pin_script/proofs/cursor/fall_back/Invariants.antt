use Rattle.std.proofs.Common.{◌≤◌}
use Rattle.pin_script.proofs.cursor.fall_back.Given as goal

abbrev pub invariant-loop-due : goal.invariant-loop-due
invariant-loop-due l = l.due ≤ l.guess

abbrev pub decreases-loop-due : goal.decreases-loop-due
decreases-loop-due l = l.due

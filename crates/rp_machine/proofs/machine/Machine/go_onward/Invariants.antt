use Rattle.std.proofs.Common.{◌-◌}
use Rattle.rp_machine.proofs.Inward.{HasGone}
use Rattle.rp_machine.proofs.machine.Machine.go_onward.Given as goal

abbrev pub invariant-loop-done : goal.invariant-loop-done
invariant-loop-done g l = HasGone l.initial.self l.self l.most l.done l.lines l.initial.steps l.steps l.initial.marks l.marks

abbrev pub decreases-loop-done : goal.decreases-loop-done
decreases-loop-done g l = l.most - l.done

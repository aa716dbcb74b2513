use Rattle.reverse_debug.proofs.Shared.{setting_of, sought, ◌-◌}
use Rattle.reverse_debug.proofs.Ends.{Unended}
use Rattle.reverse_debug.proofs.advance.seek.Given as goal

abbrev pub invariant-cycles : goal.invariant-cycles
invariant-cycles g l =
    Unended (setting_of l.world.script.now (g.X.Device.meaning l.world.device.now) l.world.limit) (sought l.watched) l.initial.machine l.machine l.to
    l.initial.steps l.steps

abbrev pub decreases-cycles : goal.decreases-cycles
decreases-cycles g l = l.to - l.machine.cycle

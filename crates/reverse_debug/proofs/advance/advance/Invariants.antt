use Rattle.reverse_debug.proofs.Shared.{Advances, None, setting_of, ◌-◌}
use Rattle.reverse_debug.proofs.advance.advance.Given as goal

abbrev pub invariant-cycles : goal.invariant-cycles
invariant-cycles g l =
    Advances (setting_of l.world.script.now (g.X.Device.meaning l.world.device.now) l.world.limit) l.initial.machine l.to l.machine None l.initial.steps l.steps

abbrev pub decreases-cycles : goal.decreases-cycles
decreases-cycles g l = l.to - l.machine.cycle

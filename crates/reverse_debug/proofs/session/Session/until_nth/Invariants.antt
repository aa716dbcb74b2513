use Rattle.reverse_debug.proofs.Shared.{Seeks, setting_of, sought, ◌-◌}
use Rattle.reverse_debug.proofs.session.Session.until_nth.Given as goal

abbrev pub invariant-cycles : goal.invariant-cycles
invariant-cycles g l =
    Seeks (setting_of l.world.script.now (g.X.Device.meaning l.world.device.now) l.world.limit) (sought l.watched) l.count l.initial.self l.self l.left
    l.initial.steps l.steps

abbrev pub decreases-cycles : goal.decreases-cycles
decreases-cycles g l = l.world.limit - l.self.now.cycle

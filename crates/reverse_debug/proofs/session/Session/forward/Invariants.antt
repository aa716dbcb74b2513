use Rattle.reverse_debug.proofs.Shared.{GoesOn, None, setting_of, ◌-◌}
use Rattle.reverse_debug.proofs.session.Session.forward.Given as goal

abbrev pub invariant-stretches : goal.invariant-stretches
invariant-stretches g l =
    GoesOn (setting_of l.world.script.now (g.X.Device.meaning l.world.device.now) l.world.limit) l.initial.self l.to l.self None l.initial.steps l.steps

abbrev pub decreases-stretches : goal.decreases-stretches
decreases-stretches g l = l.to - l.self.now.cycle

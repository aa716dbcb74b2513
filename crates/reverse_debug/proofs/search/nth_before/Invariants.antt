use Rattle.reverse_debug.proofs.Shared.{first_in, setting_of, sought}
use Rattle.reverse_debug.proofs.Stretches.{Searching}
use Rattle.reverse_debug.proofs.search.nth_before.Given as goal

abbrev pub invariant-stretches : goal.invariant-stretches
invariant-stretches g l =
    Searching (setting_of l.world.script.now (g.X.Device.meaning l.world.device.now) l.world.limit) (first_in l.ring l.initial.machine) (sought l.watched)
    l.count l.to l.left l.end l.initial.steps l.steps

abbrev pub decreases-stretches : goal.decreases-stretches
decreases-stretches g l = l.end

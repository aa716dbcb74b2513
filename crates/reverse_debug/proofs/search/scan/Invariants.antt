use Rattle.reverse_debug.proofs.Shared.{setting_of, sought, ◌-◌}
use Rattle.reverse_debug.proofs.Tallies.{Counting}
use Rattle.reverse_debug.proofs.search.scan.Given as goal

abbrev pub invariant-cycles : goal.invariant-cycles
invariant-cycles g l =
    Counting (setting_of l.world.script.now (g.X.Device.meaning l.world.device.now) l.world.limit) l.initial.machine l.machine (sought l.watched) l.most l.to
    l.tally l.initial.steps l.steps

abbrev pub decreases-cycles : goal.decreases-cycles
decreases-cycles g l = l.to - l.machine.cycle

use Rattle.std.proofs.Common.{◌≡◌, ◌-◌}
use Rattle.reverse_debug.proofs.Sights.{Unstopped}
use Rattle.reverse_debug.proofs.sight.SightWatch.go_onward.Given as goal

abbrev pub invariant-cycles : goal.invariant-cycles
invariant-cycles g l = Unstopped l.self l.initial.machine l.machine l.most l.done l.initial.steps l.steps × (l.marks ≡ l.initial.marks)

abbrev pub decreases-cycles : goal.decreases-cycles
decreases-cycles g l = l.most - l.done

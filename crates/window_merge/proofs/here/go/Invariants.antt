use Rattle.std.proofs.Common.{◌≡◌, ◌+◌, ◌≤◌, ◌-◌}
use Rattle.window_merge.proofs.Shared.{begun, setting_of}
use Rattle.window_merge.proofs.Passing.{Passes}
use Rattle.window_merge.proofs.here.go.Given as goal

abbrev pub invariant-cycles : goal.invariant-cycles
invariant-cycles g l = record {
  passes : Passes (setting_of l.world.script.now (g.X.Device.meaning l.world.device.now) l.world.limit) l.fn.machine l.k l.machine l.start l.notes l.marks;
  within : l.k ≤ l.fn.most;
  first : l.k ≡ 0 → l.lanes ≡ begun l.machine;
  counted : l.steps ≡ l.fn.steps + l.k;
}

abbrev pub decreases-cycles : goal.decreases-cycles
decreases-cycles g l = l.fn.most - l.k

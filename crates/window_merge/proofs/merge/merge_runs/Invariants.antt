use Rattle.window_merge.proofs.Shared.{setting_of, ◌+◌, ◌≡◌}
use Rattle.window_merge.proofs.Windows.{Stands}
use Rattle.window_merge.proofs.merge.merge_runs.Given as goal

abbrev pub invariant-loop-k : goal.invariant-loop-k
invariant-loop-k g l = record {
  stands : Stands (setting_of l.world.script.now (g.X.Device.meaning l.world.device.now) l.world.limit) l.fn.machine l.k l.machine
      l.rests l.marks;
  counted : l.steps ≡ l.fn.steps + l.k;
}

use Rattle.window_merge.proofs.Shared.{setting_of, ◌-◌}
use Rattle.window_merge.proofs.Going.{OnWay}
use Rattle.window_merge.proofs.alone.advance_alone.Given as goal

abbrev pub invariant-loop-marks : goal.invariant-loop-marks
invariant-loop-marks g l =
    OnWay (setting_of l.world.script.now (g.X.Device.meaning l.world.device.now) l.world.limit) l.initial.machine l.to l.machine l.initial.steps l.steps

abbrev pub decreases-loop-marks : goal.decreases-loop-marks
decreases-loop-marks g l = l.to - l.machine.cycle

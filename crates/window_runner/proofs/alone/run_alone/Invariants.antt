use Rattle.window_runner.proofs.Shared.{begun, left_of, position_at, setting_of, ◌≡◌}
use Rattle.window_runner.proofs.Underway.{Underway}
use Rattle.window_runner.proofs.alone.run_alone.Given as goal

abbrev pub invariant-steps : goal.invariant-steps
invariant-steps g l =
    let w = setting_of l.world.script.now (g.X.Device.meaning l.world.device.now) l.world.limit in
    Underway g.T.Tape.took l.initial.tape l.tape (g.T.Tape.faults l.initial.tape) (g.T.Tape.faults l.tape) w l.initial.machine (position_at l.machine l.counts) l.initial.steps l.steps
    × (l.crew.jobs ≡ l.initial.crew.jobs)
    × (l.crew.begun ≡ begun l.machine)

abbrev pub decreases-steps : goal.decreases-steps
decreases-steps g l =
    left_of (setting_of l.world.script.now (g.X.Device.meaning l.world.device.now) l.world.limit) (position_at l.machine l.counts)

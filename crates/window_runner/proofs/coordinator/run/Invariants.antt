use Rattle.window_runner.proofs.Shared.{begun, left_of, position_at, setting_of, ◌≡◌}
use Rattle.window_runner.specs.Seated.{IsReady}
use Rattle.window_runner.proofs.Underway.{Underway}
use Rattle.window_runner.proofs.coordinator.run.Given as goal

abbrev pub invariant-steps : goal.invariant-steps
invariant-steps g l =
    let w = setting_of l.desk.world.now.script.now (g.X.Device.meaning l.desk.world.now.device.now) l.desk.world.now.limit in
    Underway g.T.Tape.took l.initial.tape l.tape (g.T.Tape.faults l.initial.tape) (g.T.Tape.faults l.tape) w l.initial.machine (position_at l.machine l.counts) l.initial.steps l.steps
    × IsReady l.desk.board.now (λ w. w.now ≡ l.desk.world.now) l.lead.opened l.lead.kept l.lead.master l.lead.seat
    × (l.lead.sets.value.begun ≡ begun l.machine)

abbrev pub decreases-steps : goal.decreases-steps
decreases-steps g l =
    left_of (setting_of l.desk.world.now.script.now (g.X.Device.meaning l.desk.world.now.device.now) l.desk.world.now.limit) (position_at l.machine l.counts)

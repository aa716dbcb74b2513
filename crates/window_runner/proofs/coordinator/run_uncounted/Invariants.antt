use Rattle.window_runner.proofs.Shared.{OnItsWay, setting_of, ◌-◌, ◌≡◌}
use Rattle.window_runner.specs.Seated.{IsReady}
use Rattle.window_runner.proofs.coordinator.run_uncounted.Given as goal

abbrev pub invariant-cycles : goal.invariant-cycles
invariant-cycles g l =
    OnItsWay g.T.Tape.took l.initial.tape l.tape (g.T.Tape.faults l.initial.tape) (g.T.Tape.faults l.tape)
    (setting_of l.desk.world.now.script.now (g.X.Device.meaning l.desk.world.now.device.now) l.desk.world.now.limit) l.initial.machine l.machine l.initial.steps l.steps
    × IsReady l.desk.board.now (λ w. w.now ≡ l.desk.world.now) l.lead.opened l.lead.kept l.lead.master l.lead.seat

abbrev pub decreases-cycles : goal.decreases-cycles
decreases-cycles g l = l.desk.world.now.limit - l.machine.cycle

use Rattle.window_runner.proofs.Shared.{OnItsWay, setting_of, ◌-◌}
use Rattle.window_runner.proofs.cycles.run_to.Given as goal

abbrev pub invariant-cycles : goal.invariant-cycles
invariant-cycles g l =
    OnItsWay g.T.Tape.took l.initial.tape l.tape (g.T.Tape.faults l.initial.tape) (g.T.Tape.faults l.tape)
    (setting_of l.world.script.now (g.X.Device.meaning l.world.device.now) l.world.limit) l.initial.machine l.machine l.initial.steps l.steps

abbrev pub decreases-cycles : goal.decreases-cycles
decreases-cycles g l = l.world.limit - l.machine.cycle

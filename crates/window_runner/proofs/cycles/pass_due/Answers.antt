use Rattle.window_runner.proofs.Shared.{no_window, setting_of, sym}
use Rattle.window_runner.proofs.Along.{no_cycles}
use Rattle.window_runner.proofs.cycles.pass_due.Goals as goal

pub returns-clause-state : goal.returns-clause-state
returns-clause-state g c =
    sym (no_cycles (setting_of c.args.world.now.script.now (g.X.Device.meaning c.args.world.now.device.now) c.args.world.now.limit) c.args.machine.now)

pub returns-clause-quiet : goal.returns-clause-quiet
returns-clause-quiet g c =
    (no_window (setting_of c.args.world.now.script.now (g.X.Device.meaning c.args.world.now.device.now) c.args.world.now.limit) c.args.machine.now).quiet

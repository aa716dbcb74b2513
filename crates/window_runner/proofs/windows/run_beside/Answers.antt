use Rattle.window_runner.proofs.Shared.{IsOnRun, refl, setting_of, subst, sym}
use Rattle.window_runner.proofs.Reaching.{on_run_first}
use Rattle.window_runner.proofs.windows.run_beside.Goals as goal

pub returns-in-None-clause-on_run : goal.returns-in-None-clause-on_run
returns-in-None-clause-on_run g c =
    let w = setting_of c.args.world.now.script.now (g.X.Device.meaning c.args.world.now.device.now) c.args.world.now.limit in
    subst (IsOnRun w c.args.machine.now) (sym (c.in-None.ensures.memory refl).0) (on_run_first w c.args.machine.now c.requires.number)

use Rattle.window_runner.proofs.Shared.{position_at, refl, setting_of}
use Rattle.window_runner.proofs.Quietly.{passes_none, passes_some}
use Rattle.window_runner.proofs.alone.pass_quiet.Goals as goal

pub returns-then-counts-clause-passed : goal.returns-then-counts-clause-passed
returns-then-counts-clause-passed g c =
    let w = setting_of c.args.world.now.script.now (g.X.Device.meaning c.args.world.now.device.now) c.args.world.now.limit in
    passes_none w (position_at c.args.machine.now c.args.counts.now) c.args.steps.now

pub returns-clause-passed : goal.returns-clause-passed
returns-clause-passed g c =
    let w = setting_of c.args.world.now.script.now (g.X.Device.meaning c.args.world.now.device.now) c.args.world.now.limit in
    let over = c.pass_windows-windows.ensures in
    passes_some w c.args.machine.now c.pass_windows-windows.new.machine c.args.counts.now _ c.pass_windows-windows.result c.args.steps.now _ c.if-counts.false over.quiet over.state refl refl refl over.steps

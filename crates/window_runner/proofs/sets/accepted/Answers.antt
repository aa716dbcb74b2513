use Rattle.window_runner.proofs.Shared.{setting_of, sym, ◌∙◌}
use Rattle.window_runner.proofs.sets.accepted.Goals as goal

pub returns-then-is_ok : goal.returns-then-is_ok
returns-then-is_ok g c =
    let w = setting_of c.args.world.now.script.now (g.X.Device.meaning c.args.world.now.device.now) c.args.world.now.limit in
    let is_true = rw c.in_ok-report.was at c.requires in
    (c.if-report-lane.true, (c.accept.ensures.alone w is_true).0 (sym c.is_ok.ensures.value ∙ c.if-is_ok.true))

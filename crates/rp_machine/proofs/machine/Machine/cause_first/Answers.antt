use Rattle.rp_machine.proofs.Shared.{setting_of, ◌∙◌}
use Rattle.rp_machine.proofs.OneCore.{cause_first}
use Rattle.rp_machine.proofs.machine.Machine.cause_first.Goals as goal

pub returns : goal.returns
returns g c =
    let w = setting_of c.args.world.now.script.now (g.X.Device.meaning c.args.world.now.device.now) c.args.world.now.limit in
    c.cause_of_core0.ensures ∙ cause_first w c.args.begun.now c.args.self.now c.requires

use Rattle.std.proofs.Common.{◌∙◌}
use Rattle.pwm_block.proofs.Slices.{started}
use Rattle.pwm_block.proofs.device.start.Goals as goal

pub returns : goal.returns
returns c = c.renew.ensures ∙ started c.args.state.now

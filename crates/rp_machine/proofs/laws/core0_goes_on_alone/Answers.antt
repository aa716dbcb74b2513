use Rattle.rp_machine.proofs.Inward.{core0_goes_on_alone}
use Rattle.rp_machine.proofs.laws.core0_goes_on_alone.Goals as goal

pub returns : goal.returns
returns c = core0_goes_on_alone

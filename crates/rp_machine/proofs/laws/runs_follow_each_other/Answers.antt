use Rattle.rp_machine.proofs.Joining.{runs_follow}
use Rattle.rp_machine.proofs.laws.runs_follow_each_other.Goals as goal

pub returns : goal.returns
returns c = runs_follow

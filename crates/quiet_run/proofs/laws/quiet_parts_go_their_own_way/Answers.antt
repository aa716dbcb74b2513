use Rattle.quiet_run.proofs.Passing.{quiet_parts_go_their_own_way}
use Rattle.quiet_run.proofs.laws.quiet_parts_go_their_own_way.Goals as goal

pub returns : goal.returns
returns c = quiet_parts_go_their_own_way

use Rattle.std.proofs.Common.{arith}
use Rattle.window_merge.proofs.Walking.{runs_found}
use Rattle.window_merge.proofs.walk.ends_here.Goals as goal

pub returns : goal.returns
returns g c = search (arith, runs_found)

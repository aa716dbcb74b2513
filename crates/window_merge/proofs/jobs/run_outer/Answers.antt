use Rattle.std.proofs.Common.{arith}
use Rattle.window_merge.proofs.Replaying.{ran_same}
use Rattle.window_merge.proofs.jobs.run_outer.Goals as goal

pub returns-clause-run : goal.returns-clause-run
returns-clause-run g c = search (arith, ran_same)

use Rattle.std.proofs.Common.{arith}
use Rattle.window_merge.proofs.Reported.{job_alone}
use Rattle.window_merge.proofs.jobs.run_by.Goals as goal

pub returns-clause-alone : goal.returns-clause-alone
returns-clause-alone g c = search (arith, job_alone)

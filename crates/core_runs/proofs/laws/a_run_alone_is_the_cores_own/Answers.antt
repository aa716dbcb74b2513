use Rattle.core_runs.proofs.Chains.{a_run_alone_is_the_cores_own}
use Rattle.core_runs.proofs.laws.a_run_alone_is_the_cores_own.Goals as goal

pub returns : goal.returns
returns c = a_run_alone_is_the_cores_own

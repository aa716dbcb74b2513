use Rattle.core_runs.proofs.Chains.{a_run_alone_chains}
use Rattle.core_runs.proofs.laws.a_run_alone_chains.Goals as goal

pub returns : goal.returns
returns c = a_run_alone_chains

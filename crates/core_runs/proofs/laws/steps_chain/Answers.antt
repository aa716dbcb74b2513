use Rattle.core_runs.proofs.Instructions.{steps_chain}
use Rattle.core_runs.proofs.laws.steps_chain.Goals as goal

pub returns : goal.returns
returns c = steps_chain

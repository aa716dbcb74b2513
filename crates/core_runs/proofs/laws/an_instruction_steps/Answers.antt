use Rattle.core_runs.proofs.Instructions.{an_instruction_steps}
use Rattle.core_runs.proofs.laws.an_instruction_steps.Goals as goal

pub returns : goal.returns
returns c = an_instruction_steps c.an_instruction_takes_its_beats.ensures

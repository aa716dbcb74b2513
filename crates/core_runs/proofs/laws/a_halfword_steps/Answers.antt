use Rattle.core_runs.proofs.Programs.{a_halfword_steps}
use Rattle.core_runs.proofs.laws.a_halfword_steps.Goals as goal

pub returns : goal.returns
returns c = a_halfword_steps c.an_instruction_steps.ensures

use Rattle.routine_laws.proofs.Memset.{memset_sets}
use Rattle.routine_laws.proofs.memset_sets.Goals as goal

pub returns : goal.returns
returns c = memset_sets c.a_halfword_steps.ensures

use Rattle.routine_laws.proofs.Memcpy.{memcpy_copies}
use Rattle.routine_laws.proofs.memcpy_copies.Goals as goal

pub returns : goal.returns
returns c = memcpy_copies c.a_halfword_steps.ensures

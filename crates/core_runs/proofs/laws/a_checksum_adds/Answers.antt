use Rattle.core_runs.proofs.Checksum.{a_checksum_adds}
use Rattle.core_runs.proofs.laws.a_checksum_adds.Goals as goal

pub returns : goal.returns
returns c = a_checksum_adds c.a_halfword_steps.ensures

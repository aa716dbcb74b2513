use Rattle.startup_laws.proofs.Held.{held_stays}
use Rattle.startup_laws.proofs.a_held_block_stays.Goals as goal

pub returns : goal.returns
returns c = held_stays c.an_engine_at_reset_never_acts.ensures c.a_block_at_reset_never_acts.ensures

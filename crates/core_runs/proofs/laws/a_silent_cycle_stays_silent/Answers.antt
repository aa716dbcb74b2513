use Rattle.core_runs.proofs.Silent.{a_silent_cycle_stays_silent}
use Rattle.core_runs.proofs.laws.a_silent_cycle_stays_silent.Goals as goal

pub returns : goal.returns
returns c = a_silent_cycle_stays_silent

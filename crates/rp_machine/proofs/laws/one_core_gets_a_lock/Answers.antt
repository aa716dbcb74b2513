use Rattle.rp_machine.proofs.Numbered.{one_gets_it}
use Rattle.rp_machine.proofs.laws.one_core_gets_a_lock.Goals as goal

pub returns : goal.returns
returns c = one_gets_it

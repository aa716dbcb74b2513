use Rattle.io_bank.proofs.Latching.{latched_later}
use Rattle.io_bank.proofs.laws.an_edge_is_latched_two_cycles_later.Goals as goal

pub returns : goal.returns
returns c = latched_later

use Rattle.io_bank.proofs.Latching.{write_clears}
use Rattle.io_bank.proofs.laws.a_write_clears_an_edge.Goals as goal

pub returns : goal.returns
returns c = write_clears

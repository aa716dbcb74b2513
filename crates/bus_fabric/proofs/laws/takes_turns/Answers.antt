use Rattle.bus_fabric.proofs.Fairness.{fair}
use Rattle.bus_fabric.proofs.laws.takes_turns.Goals as goal

pub returns : goal.returns
returns c = fair

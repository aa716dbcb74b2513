use Rattle.bus_fabric.proofs.Waiting.{wait_law}
use Rattle.bus_fabric.proofs.laws.an_equal_waits_three_wins.Goals as goal

pub returns : goal.returns
returns c = wait_law

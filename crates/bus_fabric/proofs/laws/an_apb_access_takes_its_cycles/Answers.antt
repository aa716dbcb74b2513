use Rattle.bus_fabric.proofs.Waiting.{apb_law}
use Rattle.bus_fabric.proofs.laws.an_apb_access_takes_its_cycles.Goals as goal

pub returns : goal.returns
returns c = apb_law

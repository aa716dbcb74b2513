use Rattle.pio_machine.proofs.Drives.{the_side_set_decides}
use Rattle.pio_machine.proofs.laws.the_side_set_decides.Goals as goal

pub returns : goal.returns
returns c = the_side_set_decides

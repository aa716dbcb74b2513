use Rattle.pio_machine.proofs.Drives.{the_later_machine_decides}
use Rattle.pio_machine.proofs.laws.the_later_machine_decides.Goals as goal

pub returns : goal.returns
returns c = the_later_machine_decides

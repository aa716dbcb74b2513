use Rattle.pio_block.proofs.Highest.{the_highest_machine_decides}
use Rattle.pio_block.proofs.laws.the_highest_machine_decides.Goals as goal

pub returns : goal.returns
returns c = the_highest_machine_decides

use Rattle.pio_machine.proofs.Clock.{a_cycle_keeps_the_fifos_within}
use Rattle.pio_machine.proofs.laws.a_cycle_keeps_the_fifos_within.Goals as goal

pub returns : goal.returns
returns c = a_cycle_keeps_the_fifos_within

use Rattle.pio_machine.proofs.Tries.{bits_in}
use Rattle.pio_machine.proofs.laws.the_bits_in_stand_at_their_end.Goals as goal

pub returns : goal.returns
returns c = bits_in

use Rattle.pio_machine.proofs.Tries.{begins_untried}
use Rattle.pio_machine.proofs.laws.a_word_begins_untried.Goals as goal

pub returns : goal.returns
returns c = begins_untried

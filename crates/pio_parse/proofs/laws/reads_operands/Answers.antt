use Rattle.pio_parse.proofs.LoneOperands.{reads_operands}
use Rattle.pio_parse.proofs.laws.reads_operands.Goals as goal

pub returns : goal.returns
returns c = reads_operands

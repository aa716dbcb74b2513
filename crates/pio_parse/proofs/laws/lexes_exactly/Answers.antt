use Rattle.pio_parse.proofs.Decide.{lexes_exactly}
use Rattle.pio_parse.proofs.laws.lexes_exactly.Goals as goal

pub returns : goal.returns
returns c = lexes_exactly

use Rattle.pio_parse.proofs.Readers.{fault_read}
use Rattle.pio_parse.proofs.parser.parse.Goals as goal

pub returns-clause-err : goal.returns-clause-err
returns-clause-err c = fault_read _ _ c.read_file.ensures.err

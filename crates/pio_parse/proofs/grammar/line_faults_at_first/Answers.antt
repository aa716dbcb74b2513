use Rattle.pio_parse.proofs.FirstFaults.{line_faults_at_first}
use Rattle.pio_parse.proofs.grammar.line_faults_at_first.Goals as goal

pub returns : goal.returns
returns c = line_faults_at_first

use Rattle.pio_parse.proofs.Files.{syntax_faults_at_first}
use Rattle.pio_parse.proofs.grammar.syntax_faults_at_first.Goals as goal

pub returns : goal.returns
returns c = syntax_faults_at_first

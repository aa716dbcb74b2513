use Rattle.pio_parse.proofs.FirstFaults.{faults_at_first}
use Rattle.pio_parse.proofs.laws.faults_at_first.Goals as goal

pub returns : goal.returns
returns c = faults_at_first

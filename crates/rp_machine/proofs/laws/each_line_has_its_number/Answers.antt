use Rattle.rp_machine.proofs.Numbered.{numbered}
use Rattle.rp_machine.proofs.laws.each_line_has_its_number.Goals as goal

pub returns : goal.returns
returns c = numbered

use Rattle.core_runs.proofs.Bytes.{each_place_has_a_byte}
use Rattle.core_runs.proofs.laws.each_place_has_a_byte.Goals as goal

pub returns : goal.returns
returns c = each_place_has_a_byte

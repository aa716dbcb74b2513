use Rattle.core_runs.proofs.Bytes.{each_fourth_place_has_a_word}
use Rattle.core_runs.proofs.laws.each_fourth_place_has_a_word.Goals as goal

pub returns : goal.returns
returns c = each_fourth_place_has_a_word

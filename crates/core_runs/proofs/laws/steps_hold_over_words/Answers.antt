use Rattle.core_runs.proofs.Words.{steps_hold_over_words}
use Rattle.core_runs.proofs.laws.steps_hold_over_words.Goals as goal

pub returns : goal.returns
returns c = steps_hold_over_words

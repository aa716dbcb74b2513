use Rattle.core_runs.proofs.Words.{a_run_over_words_is_that_over_their_bytes}
use Rattle.core_runs.proofs.laws.a_run_over_words_is_that_over_their_bytes.Goals as goal

pub returns : goal.returns
returns c = a_run_over_words_is_that_over_their_bytes

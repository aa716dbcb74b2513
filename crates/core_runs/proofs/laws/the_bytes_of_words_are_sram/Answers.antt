use Rattle.core_runs.proofs.Words.{the_bytes_of_words_are_sram}
use Rattle.core_runs.proofs.laws.the_bytes_of_words_are_sram.Goals as goal

pub returns : goal.returns
returns c = the_bytes_of_words_are_sram

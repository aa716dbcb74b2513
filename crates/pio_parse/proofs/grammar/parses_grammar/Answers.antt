use Rattle.pio_parse.proofs.Files.{parses_grammar}
use Rattle.pio_parse.proofs.grammar.parses_grammar.Goals as goal

pub returns : goal.returns
returns c = parses_grammar

use Rattle.reverse_debug.proofs.Shared.{ap, is_ram, sym, ◌∙◌}
use Rattle.reverse_debug.proofs.Reading.{ram_is_low}
use Rattle.reverse_debug.proofs.words.is_ram.Goals as goal

pub returns-in-Ram-clause-low : goal.returns-in-Ram-clause-low
returns-in-Ram-clause-low c = λ _. ram_is_low c.args.address (ap is_ram (sym c.place.ensures.value ∙ c.in-Ram.is))

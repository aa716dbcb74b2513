-- What the code's own type for endings stands for. No definition looks here.
use Rattle.pio_machine.specs.declared.machine.Outcome.{Outcome}
use Rattle.pio_machine.specs.declared.machine.Outcome.TheVariants as code
use Rattle.pio_machine.specs.Ending.{Ending}
use Rattle.pio_machine.specs.Ending.Ending.{Stalled, Completed, Jumped, Executes}

abbrev pub stands_for : Outcome → Ending
stands_for code.Stalled = Stalled
stands_for code.Completed = Completed
stands_for (code.Jumped address) = Jumped address
stands_for (code.Executes word) = Executes word

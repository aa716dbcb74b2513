use Rattle.std.proofs.Common.{◌≡◌, length}
use Rattle.pio_parse.specs.descent.Expression.{reduced}
use Rattle.pio_parse.proofs.expression.reduce.Given as goal

abbrev pub invariant-loop-operator : goal.invariant-loop-operator
invariant-loop-operator l = reduced l.least l.initial.stack l.initial.output ≡ reduced l.least l.stack l.output

abbrev pub decreases-loop-operator : goal.decreases-loop-operator
decreases-loop-operator l = length l.stack

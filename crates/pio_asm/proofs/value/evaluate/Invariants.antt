use Rattle.std.proofs.Common.{◌≡◌, drop}
use Rattle.pio_asm.specs.Value.{evaluated, evaluation_of, outcome_of}
use Rattle.pio_asm.proofs.value.evaluate.Given as goal

abbrev pub invariant-loop-term : goal.invariant-loop-term
invariant-loop-term l = evaluated l.locals l.globals l.expression ≡ outcome_of (evaluation_of l.locals l.globals (drop l.term-index l.terms) l.evaluation)

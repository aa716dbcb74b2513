use Rattle.std.proofs.Common.{◌-◌}
use Rattle.reverse_debug.proofs.NextLines.{Passed}
use Rattle.reverse_debug.proofs.reader.LineReader.next.Given as goal

-- no LF came so far
abbrev pub invariant-pieces : goal.invariant-pieces
invariant-pieces g l =
    Passed l.limit l.fn.self l.self (g.I.Source.left l.fn.input) (g.I.Source.left l.input) (g.I.Source.faults l.fn.input) (g.I.Source.faults l.input) l.line.items

abbrev pub decreases-pieces : goal.decreases-pieces
decreases-pieces g l = l.limit - l.self.taken

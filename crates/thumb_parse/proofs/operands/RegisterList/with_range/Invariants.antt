use Rattle.std.proofs.Common.{◌≡◌}
use Rattle.thumb_parse.specs.descent.Operands.{with_range, with_registers}
use Rattle.thumb_parse.proofs.Lists.{rest_of}
use Rattle.thumb_parse.proofs.operands.RegisterList.with_range.Given as goal

abbrev pub invariant-loop-register : goal.invariant-loop-register
invariant-loop-register l = with_range l.fn.self l.fn.first l.fn.last ≡ with_registers l.list (rest_of l.register l.fn.last)

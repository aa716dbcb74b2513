use Rattle.std.proofs.Common.{◌≡◌, drop}
use Rattle.thumb_parse.specs.descent.Operands.{list_from, list_of}
use Rattle.thumb_parse.proofs.operands.list_of.Given as goal

abbrev pub invariant-loop-token : goal.invariant-loop-token
invariant-loop-token l = list_of l.tokens ≡ list_from l.part (drop l.token-index l.tokens)

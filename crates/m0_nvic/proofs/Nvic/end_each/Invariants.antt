use Rattle.std.proofs.Common.{◌≡◌}
use Rattle.m0_nvic.specs.Quiet.{after_all}
use Rattle.m0_nvic.proofs.Nvic.end_each.Given as goal

abbrev pub invariant-loop-k : goal.invariant-loop-k
invariant-loop-k l = l.self ≡ after_all l.lines l.first l.k l.fn.self

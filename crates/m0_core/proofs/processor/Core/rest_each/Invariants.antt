use Rattle.std.proofs.Common.{◌≡◌}
use Rattle.lane_look.specs.Times.{times}
use Rattle.m0_core.specs.Quiet.{rested}
use Rattle.m0_core.proofs.processor.Core.rest_each.Given as goal

abbrev pub invariant-loop-k : goal.invariant-loop-k
invariant-loop-k l = l.self ≡ times (rested l.lines) l.first l.k l.fn.self

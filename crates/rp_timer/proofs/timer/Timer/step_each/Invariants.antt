use Rattle.std.proofs.Common.{◌≡◌}
use Rattle.rp_timer.specs.Step.{after_cycles}
use Rattle.rp_timer.proofs.timer.Timer.step_each.Given as goal

abbrev pub invariant-loop-k : goal.invariant-loop-k
invariant-loop-k l = l.self ≡ after_cycles l.first l.k l.fn.self

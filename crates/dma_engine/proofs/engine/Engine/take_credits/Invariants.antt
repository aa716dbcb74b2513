use Rattle.std.proofs.Common.{◌≡◌, false, get_or}
use Rattle.dma_engine.specs.Channel.{in_turn}
use Rattle.dma_engine.specs.Timer.{with_credit}
use Rattle.dma_engine.proofs.engine.Engine.take_credits.Given as goal

abbrev pub invariant-loop-number : goal.invariant-loop-number
invariant-loop-number l = l.self ≡ in_turn (λ k. get_or l.credited k false) with_credit l.number l.initial.self

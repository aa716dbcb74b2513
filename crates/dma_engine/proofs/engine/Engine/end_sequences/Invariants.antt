use Rattle.std.proofs.Common.{◌≡◌}
use Rattle.dma_engine.specs.Channel.{in_turn, with_end}
use Rattle.dma_engine.specs.Cycle.{is_over}
use Rattle.dma_engine.proofs.engine.Engine.end_sequences.Given as goal

abbrev pub invariant-loop-number : goal.invariant-loop-number
invariant-loop-number l = l.self ≡ in_turn (is_over l.fn.self) with_end l.number l.fn.self

use Rattle.dma_engine.specs.Awaited.{NoneMoves}
use Rattle.dma_engine.proofs.engine.Engine.some_moves.Given as goal

abbrev pub invariant-loop-number : goal.invariant-loop-number
invariant-loop-number l = NoneMoves l.counts l.self l.number

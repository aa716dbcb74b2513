use Rattle.dma_engine.specs.Cycle.{is_over}
use Rattle.dma_engine.proofs.InTurn.{TellsBelow}
use Rattle.dma_engine.proofs.engine.Engine.over.Given as goal

abbrev pub invariant-loop-number : goal.invariant-loop-number
invariant-loop-number l = TellsBelow (is_over l.self) l.over l.number

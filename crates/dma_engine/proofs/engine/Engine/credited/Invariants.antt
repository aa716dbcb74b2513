use Rattle.dma_engine.specs.Timer.{gets_credit}
use Rattle.dma_engine.proofs.InTurn.{TellsBelow}
use Rattle.dma_engine.proofs.engine.Engine.credited.Given as goal

abbrev pub invariant-loop-number : goal.invariant-loop-number
invariant-loop-number l = TellsBelow (gets_credit l.self) l.credited l.number

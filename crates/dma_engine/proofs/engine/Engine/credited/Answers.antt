use Rattle.dma_engine.proofs.InTurn.{tells_more}
use Rattle.dma_engine.proofs.engine.Engine.credited.Goals as goal

pub loop-number-preserved : goal.loop-number-preserved
loop-number-preserved c = tells_more _ _ _ _ c.loop-number.invariant c.loop-number-test.true c.gets_credit.ensures

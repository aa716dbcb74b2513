use Rattle.dma_engine.proofs.Copying.{aborted_law}
use Rattle.dma_engine.proofs.laws.an_abort_raises_nothing.Goals as goal

pub returns : goal.returns
returns c = aborted_law

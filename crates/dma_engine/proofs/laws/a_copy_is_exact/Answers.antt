use Rattle.dma_engine.proofs.Copying.{copied}
use Rattle.dma_engine.proofs.laws.a_copy_is_exact.Goals as goal

pub returns : goal.returns
returns c = copied

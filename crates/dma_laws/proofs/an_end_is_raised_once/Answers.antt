use Rattle.dma_laws.proofs.Ending.{an_end_is_raised}
use Rattle.dma_laws.proofs.an_end_is_raised_once.Goals as goal

pub returns : goal.returns
returns c = an_end_is_raised

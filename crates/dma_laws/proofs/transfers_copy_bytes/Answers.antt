use Rattle.dma_laws.proofs.Bytes.{transfers_copy_bytes}
use Rattle.dma_laws.proofs.transfers_copy_bytes.Goals as goal

pub returns : goal.returns
returns c = transfers_copy_bytes

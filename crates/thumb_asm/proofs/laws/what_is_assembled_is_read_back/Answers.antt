use Rattle.thumb_asm.proofs.Decoded.{read_back}
use Rattle.thumb_asm.proofs.laws.what_is_assembled_is_read_back.Goals as goal

pub returns : goal.returns
returns c = read_back

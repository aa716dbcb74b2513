use Rattle.sio_block.proofs.Owner.{a_lock_has_one_owner}
use Rattle.sio_block.proofs.laws.a_lock_has_one_owner.Goals as goal

pub returns : goal.returns
returns c = a_lock_has_one_owner

use Rattle.std.proofs.Common.{refl}
use Rattle.rp_base.proofs.Rows.{listed}
use Rattle.sio_block.specs.Divider.{divider_rows}
use Rattle.sio_block.specs.Locks.{lock_rows}
use Rattle.sio_block.specs.Pins.{pin_rows}
use Rattle.sio_block.specs.Side.{mailbox_rows}
use Rattle.sio_block.specs.Words.{core_rows}
use Rattle.sio_block.proofs.laws.each_register_is_at_its_offset.Goals as goal

pub returns : goal.returns
returns c = record {
  cores = λ core. listed (core_rows core) refl;
  pins = listed pin_rows refl;
  mailboxes = λ found. listed (mailbox_rows found) refl;
  dividers = listed divider_rows refl;
  locks = λ found. listed (lock_rows found) refl;
}

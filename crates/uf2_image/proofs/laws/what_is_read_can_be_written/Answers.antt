use Rattle.uf2_image.proofs.Writable.{what_is_read_can_be_written}
use Rattle.uf2_image.proofs.laws.what_is_read_can_be_written.Goals as goal

pub returns : goal.returns
returns c = what_is_read_can_be_written

use Rattle.board_parts.proofs.PartLaws.{the_earlier_part_drives}
use Rattle.board_parts.proofs.laws.the_earlier_part_drives.Goals as goal

pub returns : goal.returns
returns c = the_earlier_part_drives

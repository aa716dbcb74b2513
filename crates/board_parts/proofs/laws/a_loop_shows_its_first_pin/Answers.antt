use Rattle.board_parts.proofs.PartLaws.{a_loop_shows_its_first_pin}
use Rattle.board_parts.proofs.laws.a_loop_shows_its_first_pin.Goals as goal

pub returns : goal.returns
returns c = a_loop_shows_its_first_pin

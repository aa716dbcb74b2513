use Rattle.turn_board.proofs.Follows.{tickets_bounded}
use Rattle.turn_board.proofs.laws.tickets_bounded.Goals as goal

pub returns : goal.returns
returns c = tickets_bounded

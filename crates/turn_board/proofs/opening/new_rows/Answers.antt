use Rattle.std.proofs.Common.{refl}
use Rattle.turn_board.proofs.Moves.{starts}
use Rattle.turn_board.proofs.opening.new_rows.Goals as goal

pub new-requires : goal.new-requires
new-requires g c = starts g.J.Kept.made_for g.R.Kept.made_for _ _ _ refl c.in_ok-slots.ensures

use Rattle.std.proofs.Common.{rules, arith}
use Rattle.turn_board.proofs.Moves.{draws}
use Rattle.turn_board.proofs.steps.draw.Goals as goal

pub fetch_add-requires : goal.fetch_add-requires
fetch_add-requires g c = (search rules, omega arith, draws _ _ _ _ _ _ (search rules) (search rules) (search rules))

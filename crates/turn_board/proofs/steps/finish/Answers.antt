use Rattle.std.proofs.Common.{rules, arith}
use Rattle.turn_board.proofs.Moves.{finishes_as}
use Rattle.turn_board.proofs.steps.finish.Goals as goal

pub fetch_add-requires : goal.fetch_add-requires
fetch_add-requires g c = (search rules, omega arith, finishes_as _ _ _ _ _ _ (search rules) (search rules) (search rules))

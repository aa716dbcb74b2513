use Rattle.std.proofs.Common.{rules, arith}
use Rattle.turn_board.proofs.Moves.{sees}
use Rattle.turn_board.proofs.steps.see_open.Goals as goal

pub load-requires : goal.load-requires
load-requires g c = (search rules, omega arith, sees _ _ _ _ _ _ (search rules) (search rules))

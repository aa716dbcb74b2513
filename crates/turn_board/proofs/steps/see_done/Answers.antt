use Rattle.std.proofs.Common.{rules, arith}
use Rattle.turn_board.proofs.Moves.{polls}
use Rattle.turn_board.proofs.steps.see_done.Goals as goal

pub load-requires : goal.load-requires
load-requires g c = (search rules, omega arith, polls _ _ _ _ _ _ (search rules) (search rules) (search rules) (search rules))

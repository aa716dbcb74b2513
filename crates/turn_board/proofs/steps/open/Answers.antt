use Rattle.std.proofs.Common.{rules, arith}
use Rattle.turn_board.proofs.Moves.{opens}
use Rattle.turn_board.proofs.steps.open.Goals as goal

pub fetch_add-requires : goal.fetch_add-requires
fetch_add-requires g c = (search rules, omega arith, opens _ _ _ _ _ _ (search rules) (search rules) (search rules) (search rules) (search rules) (search rules))

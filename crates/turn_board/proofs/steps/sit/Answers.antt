use Rattle.std.proofs.Common.{rules, arith}
use Rattle.turn_board.proofs.Moves.{sits}
use Rattle.turn_board.proofs.steps.sit.Goals as goal

pub split_seat-requires : goal.split_seat-requires
split_seat-requires g c = (search rules, omega arith, sits _ _ _ _ _ (search rules) (search rules))

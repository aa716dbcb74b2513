use Rattle.std.proofs.Common.{rules, arith}
use Rattle.turn_board.proofs.Moves.{closes}
use Rattle.turn_board.proofs.steps.close.Goals as goal

pub fetch_or-requires : goal.fetch_or-requires
fetch_or-requires g c = (search rules, omega arith, closes _ _ _ _ _ _ (search rules) (search rules))

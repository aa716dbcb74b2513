use Rattle.std.proofs.Common.{arith}
use Rattle.turn_board.proofs.Refills.{collected}
use Rattle.turn_board.proofs.calls.Board.gathered.Goals as goal

pub refill_all-found-requires-clause-in_hand : goal.refill_all-found-requires-clause-in_hand
refill_all-found-requires-clause-in_hand g c = let p = c.see_done-done.ensures.polled in let few = p.0 in let same = c.master.invariant.1 in collected _ _ _ _ (p.4 (omega arith))

use Rattle.std.proofs.Common.{arith, ap}
use Rattle.turn_board.proofs.Refills.{collected}
use Rattle.turn_board.proofs.opening.take_slots.Goals as goal

pub refill_all-requires-clause-in_hand : goal.refill_all-requires-clause-in_hand
refill_all-requires-clause-in_hand g c = let p = c.see_done.ensures.polled in let few = p.0 in let none = ap (λ v. v.master.opened) c.requires.new.0 in collected _ _ _ _ (p.4 (omega arith))

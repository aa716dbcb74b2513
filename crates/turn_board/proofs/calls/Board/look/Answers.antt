use Rattle.std.proofs.Common.{inl, inr, arith}
use Rattle.turn_board.proofs.Seen.{seat_saw, answered}
use Rattle.turn_board.proofs.calls.Board.look.Goals as goal
use Rattle.turn_board.proofs.calls.Board.look.Goals.{then-number-opened, else-number-opened+then-word-ge-CLOSED, else-number-opened+else-word-ge-CLOSED}

pub invariant_of-seat : goal.invariant_of-seat
invariant_of-seat g c = seat_saw _ _ _ _ _ c.seat.invariant c.see_open-word.ensures.looked

pub returns-clause-answer : goal.returns-clause-answer
returns-clause-answer g c = answered g.J.Kept.made_for g.R.Kept.made_for c.seat.inside.post.table_id c.see_open-word.new.seat.table_id c.seat.inside.post.me c.see_open-word.new.seat.me c.args.seat.now c.see_open-word.result c.args.ticket.now c.if-number-opened.result c.see_open-word.ensures.table c.seat.view_is c.seat.invariant
    c.see_open-word.ensures.looked c.requires.own (elim c.if-number-opened.branch [
      | then-number-opened w ↦ inl (omega arith, w.result-is)
      | else-number-opened+then-word-ge-CLOSED w ↦ inr (inl (omega arith, omega arith, w.result-is))
      | else-number-opened+else-word-ge-CLOSED w ↦ inr (inr (omega arith, omega arith, w.result-is))
    ])

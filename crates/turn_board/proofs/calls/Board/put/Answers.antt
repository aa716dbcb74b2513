use Rattle.std.proofs.Common.{◌%◌, ap, ◌∙◌, sym, subst}
use Rattle.turn_board.specs.Tickets.{IsUnfinished}
use Rattle.turn_board.proofs.Swaps.{exchanged_second}
use Rattle.turn_board.proofs.calls.Board.put.Goals as goal

pub invariant_of-seat : goal.invariant_of-seat
invariant_of-seat g c = exchanged_second g.J.Kept.made_for g.R.Kept.made_for _ _ _ _ _ c.args.ticket.now _ _ c.seat.invariant (ap (λ s. s.state.holding) c.seat.view_is ∙ c.requires.holding) c.turn.ensures.2 c.exchange-before.ensures.2 c.exchange-before.ensures.3
    c.turn-2.ensures.2 (subst (λ s. IsUnfinished s.state c.args.ticket.now) (sym c.seat.view_is) c.requires.own)
    (subst (λ s. g.R.Kept.made_for s.made_for (c.args.ticket.now % 6) c.args.found) (sym c.seat.view_is) c.requires.made_for)

use Rattle.std.proofs.Common.{ap, ◌∙◌}
use Rattle.turn_board.proofs.Swaps.{exchanged_first}
use Rattle.turn_board.proofs.calls.Board.take.Goals as goal

pub invariant_of-seat : goal.invariant_of-seat
invariant_of-seat g c = exchanged_first g.J.Kept.made_for g.R.Kept.made_for _ _ _ _ _ c.seat.invariant (ap (λ s. s.state.holding) c.seat.view_is ∙ c.requires.holding) c.exchange-taken.ensures.2 c.exchange-taken.ensures.3 (λ _. tt)

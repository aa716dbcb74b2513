use Rattle.std.proofs.Common.{ap, sym, subst}
use Rattle.turn_board.specs.Tickets.{IsUnfinished}
use Rattle.turn_board.proofs.Owning.{draw_own}
use Rattle.turn_board.proofs.calls.Board.draw.Goals as goal

pub returns-clause-own : goal.returns-clause-own
returns-clause-own g c = let p = c.draw.ensures.drawn in subst (λ n. IsUnfinished c.draw.new.seat.me.0.worker n) (sym c.of.ensures) (draw_own _ _ c.draw.new.seat.me.0.worker c.draw.result p.1 (ap (λ m. m.0.worker) p.0))

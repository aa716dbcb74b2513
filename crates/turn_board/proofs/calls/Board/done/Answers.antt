use Rattle.std.proofs.Common.{ap, ◌∙◌, subst, sym}
use Rattle.std.specs.Prelude.{IsSome}
use Rattle.turn_board.specs.Tickets.{IsUnfinished}
use Rattle.turn_board.proofs.Owning.{done_free}
use Rattle.turn_board.proofs.Swaps.{brings}
use Rattle.turn_board.proofs.calls.Board.done.Goals as goal

pub finish-before-requires-clause-result : goal.finish-before-requires-clause-result
finish-before-requires-clause-result g c = brings g.J.Kept.made_for g.R.Kept.made_for _ c.seat.invariant (ap (λ s. s.state.holding) c.seat.view_is ∙ c.requires.holding) (subst (λ s. IsSome s.found) (sym c.seat.view_is) c.requires.there)

pub returns-clause-free : goal.returns-clause-free
returns-clause-free g c = let own = subst (λ s. IsUnfinished s.state c.args.ticket) (sym c.seat.view_is) c.requires.own in let p = c.finish-before.ensures.finished c.args.ticket own in
    done_free _ _ c.finish-before.new.seat.me.0.worker c.args.ticket p.1 own (ap (λ m. m.0.worker) p.0)

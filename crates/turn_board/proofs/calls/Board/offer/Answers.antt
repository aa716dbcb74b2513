use Rattle.std.proofs.Common.{sym, ap, ◌∙◌, subst}
use Rattle.turn_board.specs.Answers.{EachLane}
use Rattle.turn_board.specs.declared.slot.Slot.TheVariants.{Empty}
use Rattle.turn_board.proofs.Refills.{brings_jobs}
use Rattle.turn_board.proofs.calls.Board.offer.Goals as goal

pub refill_all-requires-clause-in_hand : goal.refill_all-requires-clause-in_hand
refill_all-requires-clause-in_hand g c = (
  record { l0 = Empty; l1 = Empty; l2 = Empty; l3 = Empty; l4 = Empty; l5 = Empty },
  (Empty, Empty, Empty, Empty, Empty, Empty, c.master.invariant.0.holds (ap (λ s. s.state.known) c.master.view_is ∙ (c.requires.gathered ∙ sym (ap (λ s. s.state.opened) c.master.view_is)))),
)

pub open-requires-clause-jobs : goal.open-requires-clause-jobs
open-requires-clause-jobs g c =
    brings_jobs g.J.Kept.made_for c.master.inside.post.me c.refill_all.new.post.me c.args.jobs c.jobs_in.result c.refill_all.ensures.in_hand c.jobs_in.ensures
    (subst (λ m. EachLane (g.J.Kept.made_for m.made_for) c.args.jobs) (sym c.master.view_is) c.requires.made_for)

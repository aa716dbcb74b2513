use Rattle.reverse_debug.proofs.Shared.{first_of, sym, ◌∙◌}
use Rattle.reverse_debug.proofs.TalkSessions.{same_open, replied_same}
use Rattle.reverse_debug.proofs.Takings.{empty_same, end_empty, end_said}
use Rattle.reverse_debug.proofs.hear.hear_end.Goals as goal

pub returns-then-is_empty-clause-tells : goal.returns-then-is_empty-clause-tells
returns-then-is_empty-clause-tells g c whole gives = end_empty _ _ whole _ _ _ (sym (empty_same c.args.given.now whole gives) ∙ (sym c.is_empty.ensures ∙ c.if-is_empty.true))

pub returns-clause-tells : goal.returns-clause-tells
returns-clause-tells g c whole gives =
    end_said _ _ whole _ (sym (empty_same c.args.given.now whole gives) ∙ (sym c.is_empty.ensures ∙ c.if-is_empty.false))
    (replied_same _ (first_of c.args.session.now) _ c.args.given.now whole _ _ _ _ _ _ _ _ (same_open c.args.given.now whole gives) c.answer.ensures.replies)

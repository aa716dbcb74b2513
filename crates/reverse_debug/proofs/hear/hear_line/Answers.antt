use Rattle.reverse_debug.proofs.Shared.{ap, first_of, strip_carriage_return, without_cr, ◌∙◌}
use Rattle.reverse_debug.proofs.TalkSessions.{same_line, replied_same}
use Rattle.reverse_debug.proofs.hear.hear_line.Goals as goal

pub returns-clause-replies : goal.returns-clause-replies
returns-clause-replies g c whole gives =
    replied_same _ (first_of c.args.session.now) _ c.without_return.result.now (without_cr whole) _ _ _ _ _ _ _ _ (same_line c.without_return.result.now whole (c.without_return.ensures ∙ ap strip_carriage_return gives)) c.answer.ensures.replies

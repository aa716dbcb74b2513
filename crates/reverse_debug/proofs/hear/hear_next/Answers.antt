use Rattle.std.proofs.Common.{refl, ◌∙◌}
use Rattle.reverse_debug.proofs.Takings.{next_more, next_last, next_cut, next_end, next_failed, next_full}
use Rattle.reverse_debug.proofs.Talks.{tells_so}
use Rattle.reverse_debug.proofs.hear.hear_next.Goals as goal

pub returns-in-Ok-true-clause-came : goal.returns-in-Ok-true-clause-came
returns-in-Ok-true-clause-came g c cycle left lost old before steps k =
    let r = c.in-Line.ensures in next_more _ cycle c.args.limit _ c.in-Ok-true.field-0-test k r (c.in-Ok-true.ensures.replies r.line (c.deref.ensures.0 ∙ r.gives))

pub returns-in-Ok-false-clause-came : goal.returns-in-Ok-false-clause-came
returns-in-Ok-false-clause-came g c cycle left lost old before steps k =
    let r = c.in-Line.ensures in next_last _ cycle c.args.limit _ c.in-Ok-false.field-0-test k r (c.in-Ok-false.ensures.replies r.line (c.deref.ensures.0 ∙ r.gives))

pub returns-in-Err-clause-came : goal.returns-in-Err-clause-came
returns-in-Err-clause-came g c cycle left lost old before steps k =
    let r = c.in-Line.ensures in next_cut _ cycle c.args.limit k r (c.in-Err.ensures.replies r.line (c.deref.ensures.0 ∙ r.gives))

pub returns-in-Ok-clause-came : goal.returns-in-Ok-clause-came
returns-in-Ok-clause-came g c cycle left lost old before steps k =
    let r = c.in-Last.ensures in next_end _ cycle c.args.limit _ refl k r (tells_so _ _ _ (c.in-Ok.ensures.tells r.line (c.deref-in-Last.ensures.0 ∙ r.gives)))

pub returns-in-Err-hear_end-clause-came : goal.returns-in-Err-hear_end-clause-came
returns-in-Err-hear_end-clause-came g c cycle left lost old before steps k =
    let r = c.in-Last.ensures in
    let h = c.in-Err-hear_end.ensures.tells r.line (c.deref-in-Last.ensures.0 ∙ r.gives) in
    next_end _ cycle c.args.limit _ tt k r (record { sends = record { ok = tt; err = h.sends.err; cause = h.sends.cause; steady = tt; count = h.sends.count }; stands = tt; forward = h.forward; most = h.most })

pub returns-in-Failed-clause-came : goal.returns-in-Failed-clause-came
returns-in-Failed-clause-came g c cycle left lost old before steps k = next_failed _ cycle c.args.limit k c.in-Failed.ensures

pub returns-in-Full-clause-came : goal.returns-in-Full-clause-came
returns-in-Full-clause-came g c cycle left lost old before steps k = next_full _ cycle c.args.limit k c.in-Full.ensures

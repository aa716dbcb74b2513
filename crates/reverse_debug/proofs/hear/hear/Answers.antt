use Rattle.reverse_debug.proofs.Shared.{Ok, ap, first_of, refl, talk_of}
use Rattle.reverse_debug.proofs.Takings.{taking_first, after_same}
use Rattle.reverse_debug.proofs.hear.hear.Goals as goal

pub lines-init : goal.lines-init
lines-init g c = (c.requires.stood, refl, refl, taking_first _ _ _ _ _ _ _ _ c.new-reader.result c.new-reader.ensures)

pub lines-smaller : goal.lines-smaller
lines-smaller g c =
    (after_same (talk_of _ (first_of c.args.session.now)) _ _ _ _ _ _ _ _ _ _ _ _ _ _ _ _ _ _ _ _ _ _ _ _ _ (ap (talk_of _) c.lines.invariant.1) (ap Ok c.in-Ok-None.field-0-is) (c.in-Ok-None.ensures.came _ _ _ _ _ _) c.lines.invariant.3).0

pub returns-in-Ok-Some-clause-hears : goal.returns-in-Ok-Some-clause-hears
returns-in-Ok-Some-clause-hears g c =
    after_same (talk_of _ (first_of c.args.session.now)) _ _ _ _ _ _ _ _ _ _ _ _ _ _ _ _ _ _ _ _ _ _ _ _ _ (ap (talk_of _) c.lines.invariant.1) (ap Ok c.in-Ok-Some.field-0-is) (c.in-Ok-Some.ensures.came _ _ _ _ _ _) c.lines.invariant.3

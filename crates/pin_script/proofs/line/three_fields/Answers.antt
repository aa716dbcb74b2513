use Rattle.pin_script.proofs.Fields.{four_fields}
use Rattle.pin_script.proofs.line.three_fields.Goals as goal

pub returns-in-Some : goal.returns-in-Some
returns-in-Some c =
    four_fields c.args.line.now c.in_ok-first.first.now c.in_ok-first.rest.now c.in_ok-second.second.now c.in_ok-second.third.now
    c.in-Some.field-0.0.now c.in-Some.field-0.1.now c.in_ok-first.ensures.parts c.in_ok-second.ensures.parts c.in-Some.ensures.parts

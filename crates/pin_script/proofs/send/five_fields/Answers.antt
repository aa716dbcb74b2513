use Rattle.pin_script.proofs.Fields.{six_fields}
use Rattle.pin_script.proofs.send.five_fields.Goals as goal

pub returns-in-Some : goal.returns-in-Some
returns-in-Some c =
    six_fields c.args.line.now c.in_ok-first.first.now c.in_ok-first.after_first.now c.in_ok-second.second.now
    c.in_ok-second.after_second.now c.in_ok-third.third.now c.in_ok-third.after_third.now c.in_ok-fourth.fourth.now
    c.in_ok-fourth.fifth.now c.in-Some.field-0.0.now c.in-Some.field-0.1.now c.in_ok-first.ensures.parts c.in_ok-second.ensures.parts
    c.in_ok-third.ensures.parts c.in_ok-fourth.ensures.parts c.in-Some.ensures.parts

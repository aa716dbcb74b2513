use Rattle.reverse_debug.proofs.Reading.{many_words}
use Rattle.reverse_debug.proofs.command.command_of.Goals as goal

pub returns-in-Some-first_part-2-clause-meaning : goal.returns-in-Some-first_part-2-clause-meaning
returns-in-Some-first_part-2-clause-meaning c =
    many_words c.args.line.now c.in-Some.name.now c.in-Some.operands.now c.in-Some-first_part.first.now c.in-Some-first_part.rest.now c.in-Some-first_part-2.field-0.0.now c.in-Some-first_part-2.field-0.1.now
    c.if-line-gt255.false c.in-Some.ensures.parts c.in-Some-first_part.ensures.parts c.in-Some-first_part-2.ensures.parts

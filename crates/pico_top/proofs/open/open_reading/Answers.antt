use Rattle.pico_top.proofs.open.open_reading.Goals as goal

pub returns-in-Run-clause-answer : goal.returns-in-Run-clause-answer
returns-in-Run-clause-answer g c = rw c.in-Run.is c.open_run.ensures.answer

pub returns-in-Debug-clause-answer : goal.returns-in-Debug-clause-answer
returns-in-Debug-clause-answer g c = rw c.in-Debug.is c.open_run-in-Debug.ensures.answer

pub returns-in-Dis-clause-answer : goal.returns-in-Dis-clause-answer
returns-in-Dis-clause-answer g c = rw c.in-Dis.is (c.open_text.ensures _ _ _)

pub returns-in-Asm-clause-answer : goal.returns-in-Asm-clause-answer
returns-in-Asm-clause-answer g c = rw (c.in-Asm.is, ← c.as_str.ensures.value) (c.open_source.ensures.answer _)

pub returns-in-Thumb-clause-answer : goal.returns-in-Thumb-clause-answer
returns-in-Thumb-clause-answer g c = rw (c.in-Thumb.is, ← c.as_str-in-Thumb.ensures.value) (c.open_thumb.ensures.answer _)

pub returns-in-Gen-clause-answer : goal.returns-in-Gen-clause-answer
returns-in-Gen-clause-answer g c = rw c.in-Gen.is (c.open_generated.ensures _ _)

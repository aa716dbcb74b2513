use Rattle.pico_top.proofs.Shared.{refl, BadScript}
use Rattle.pico_top.proofs.Walking.{judge_leads, leads_behind}
use Rattle.pico_top.proofs.open.open_script.Goals as goal

pub returns-in-None-clause-answer : goal.returns-in-None-clause-answer
returns-in-None-clause-answer g c next = rw c.in-None.is (judge_leads _ BadScript _ next (λ fault. refl) c.script_in.ensures)

pub returns-in_ok-bytes-in-Some-clause-answer : goal.returns-in_ok-bytes-in-Some-clause-answer
returns-in_ok-bytes-in-Some-clause-answer g c next =
    rw (c.in-Some.is, ← c.as_str.ensures.value)
    (leads_behind _ (c.in_ok-bytes-in-Some.ensures.answer _) refl (judge_leads _ BadScript _ next (λ fault. refl) (rw c.deref.ensures.value at c.script_in-in-Some.ensures)))

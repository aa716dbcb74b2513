use Rattle.pico_top.proofs.Shared.{rules, ◌≡◌, [], Err, Memory, BadSource, entry_in, plans_of, refl}
use Rattle.pico_top.proofs.Walking.{file_leads, first_none, first_placed, first_refused, judge_refuses, leads_behind, leads_out, places_end}
use Rattle.pico_top.proofs.open.open_program.Goals as goal

pub returns-in_err-bytes-clause-answer : goal.returns-in_err-bytes-clause-answer
returns-in_err-bytes-clause-answer g c before h =
    rw (← c.as_str.ensures.value) (places_end _ _ c.from_residual.ensures.1 (λ next. (c.in_err-bytes.ensures.answer _).ended))

pub returns-in-Ok-push-clause-answer : goal.returns-in-Ok-push-clause-answer
returns-in-Ok-push-clause-answer g c before h =
    let file = rw c.as_str.ensures.value at c.in_ok-bytes.ensures.answer in
    let first = rw (c.in-Ok-Some.field-0-is, c.deref.ensures.value) at c.in-Ok-Some.ensures.ok in
    first_placed (entry_in c.args.entry.now) before _ _ _ _ file h first c.in-Ok-push.ensures.items refl (rw (c.taken.ensures, c.deref-in-Ok-Some.ensures.value) at c.in-Ok.ensures.ok)

pub returns-in-Ok-clause-answer : goal.returns-in-Ok-clause-answer
returns-in-Ok-clause-answer g c before h =
    let file = rw c.as_str.ensures.value at c.in_ok-bytes.ensures.answer in
    record { after = []; placed = tt; leads = λ next. leads_behind (Err Memory) (file _) refl (leads_out (Err Memory) refl) }

pub returns-in-Ok-Some-clause-answer : goal.returns-in-Ok-Some-clause-answer
returns-in-Ok-Some-clause-answer g c before h =
    let file = rw c.as_str.ensures.value at c.in_ok-bytes.ensures.answer in
    let first = rw (c.in-Ok-Some.field-0-is, c.deref.ensures.value) at c.in-Ok-Some.ensures.ok in
    first_refused (entry_in c.args.entry.now) before _ _ _ file h first (rw (c.taken.ensures, c.deref-in-Ok-Some.ensures.value) at c.in-Err-offset_for.ensures.err)

pub returns-in-Ok-None-clause-answer : goal.returns-in-Ok-None-clause-answer
returns-in-Ok-None-clause-answer g c before h =
    let file = rw c.as_str.ensures.value at c.in_ok-bytes.ensures.answer in
    let none = first_none _ (rw (c.in-Ok-None.field-0-is, c.deref.ensures.value) at c.in-Ok-None.ensures.ok) in
    record { after = before; placed = h; leads = λ next. leads_behind _ (file _) refl (record { found = (refl, λ e w. rw none w); ended = tt }) }

pub returns-in-Err-Memory-clause-answer : goal.returns-in-Err-Memory-clause-answer
returns-in-Err-Memory-clause-answer g c before h =
    let file = rw c.as_str.ensures.value at c.in_ok-bytes.ensures.answer in
    record { after = []; placed = tt; leads = λ next. leads_behind (Err Memory) (file _) refl (leads_out (Err Memory) refl) }

pub returns-clause-answer : goal.returns-clause-answer
returns-clause-answer g c before h =
    let file = rw c.as_str.ensures.value at c.in_ok-bytes.ensures.answer in
    let is : plans_of c.deref.result.now ≡ Err c.in-Err.fault = search rules in
    record {
      after = [];
      placed = tt;
      leads = λ next. file_leads plans_of BadSource _ _ file (judge_refuses BadSource _ c.in-Err.fault _ (rw c.deref.ensures.value at is) refl refl);
    }

use Rattle.std.proofs.Common.{rules, ◌≡◌, Err, refl}
use Rattle.pico_top.proofs.Shared.{plans_of, BadSource}
use Rattle.pico_top.proofs.Walking.{file_leads, judge_refuses, leads_out, listing_leads}
use Rattle.pico_top.proofs.open.open_source.Goals as goal

pub returns-in_err-listing-in-Ok-clause-answer : goal.returns-in_err-listing-in-Ok-clause-answer
returns-in_err-listing-in-Ok-clause-answer g c device aims = file_leads plans_of BadSource _ _ c.in_ok-bytes.ensures.answer (leads_out _ c.from_residual-in_err-listing-in-Ok.ensures.1)

pub returns-in-Ok-clause-answer : goal.returns-in-Ok-clause-answer
returns-in-Ok-clause-answer g c device aims = file_leads plans_of BadSource _ _ c.in_ok-bytes.ensures.answer
    (listing_leads _ _ _ _ _ _ (rw c.deref.ensures.value at c.in-Ok.ensures.ok) (rw c.deref-in-Ok.ensures.value at c.in_ok-listing-in-Ok.ensures))

pub returns-in-Err-Memory-clause-answer : goal.returns-in-Err-Memory-clause-answer
returns-in-Err-Memory-clause-answer g c device aims = file_leads plans_of BadSource _ _ c.in_ok-bytes.ensures.answer (leads_out _ refl)

pub returns : goal.returns
returns g c =
    let is : plans_of c.deref.result.now ≡ Err c.in-Err.fault = search rules in
    record { kept = c.in_ok-bytes.ensures.kept; answer = λ device aims. file_leads plans_of BadSource _ _ c.in_ok-bytes.ensures.answer (judge_refuses BadSource _ c.in-Err.fault _ (rw c.deref.ensures.value at is) refl refl) }

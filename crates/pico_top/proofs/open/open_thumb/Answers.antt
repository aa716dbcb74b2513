use Rattle.std.proofs.Common.{rules, ◌≡◌, Err, refl}
use Rattle.pico_top.proofs.Shared.{image_of_source, BadThumb}
use Rattle.pico_top.proofs.Walking.{file_leads, judge_refuses, leads_out}
use Rattle.pico_top.proofs.open.open_thumb.Goals as goal

pub returns-in_err-write_image-in-Ok-clause-answer : goal.returns-in_err-write_image-in-Ok-clause-answer
returns-in_err-write_image-in-Ok-clause-answer g c device aims = file_leads image_of_source BadThumb _ _ c.in_ok-bytes.ensures.answer (leads_out _ c.from_residual-in_err-write_image-in-Ok.ensures.1)

pub returns-in-Ok-clause-answer : goal.returns-in-Ok-clause-answer
returns-in-Ok-clause-answer g c device aims = file_leads image_of_source BadThumb _ _ c.in_ok-bytes.ensures.answer
    (record { found = (refl, λ e w. rw (rw c.deref.ensures.value at c.in-Ok.ensures.image, ← c.in_ok-write_image-in-Ok.ensures.value) w); ended = tt })

pub returns-in-Err-Memory-clause-answer : goal.returns-in-Err-Memory-clause-answer
returns-in-Err-Memory-clause-answer g c device aims = file_leads image_of_source BadThumb _ _ c.in_ok-bytes.ensures.answer (leads_out _ refl)

pub returns : goal.returns
returns g c =
    let is : image_of_source c.deref.result.now ≡ Err c.in-Err.fault = search rules in
    record { kept = c.in_ok-bytes.ensures.kept; answer = λ device aims. file_leads image_of_source BadThumb _ _ c.in_ok-bytes.ensures.answer (judge_refuses BadThumb _ c.in-Err.fault _ (rw c.deref.ensures.value at is) refl refl) }

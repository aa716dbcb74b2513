use Rattle.std.proofs.Common.{rules, ◌≡◌, Err, refl}
use Rattle.pico_top.proofs.Shared.{image_of, BadImage}
use Rattle.pico_top.proofs.Walking.{file_leads, judge_leads, judge_refuses, leads_out}
use Rattle.pico_top.proofs.open.open_image.Goals as goal

pub returns-in-Ok-clause-answer : goal.returns-in-Ok-clause-answer
returns-in-Ok-clause-answer g c next =
    file_leads image_of BadImage _ _ c.in_ok-bytes.ensures.answer (judge_leads _ BadImage _ next (λ fault. refl) (rw c.deref.ensures.value at c.in-Ok.ensures.image))

pub returns-in-Err-Memory-clause-answer : goal.returns-in-Err-Memory-clause-answer
returns-in-Err-Memory-clause-answer g c next = file_leads image_of BadImage _ _ c.in_ok-bytes.ensures.answer (leads_out _ refl)

pub returns : goal.returns
returns g c =
    let is : image_of c.deref.result.now ≡ Err c.in-Err.fault = search rules in
    record {
      kept = c.in_ok-bytes.ensures.kept;
      answer = λ next. file_leads image_of BadImage _ _ c.in_ok-bytes.ensures.answer (judge_refuses BadImage _ c.in-Err.fault _ (rw c.deref.ensures.value at is) refl refl);
      fits = tt;
      have = tt;
    }

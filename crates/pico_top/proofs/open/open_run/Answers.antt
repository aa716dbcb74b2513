use Rattle.pico_top.proofs.Walking.{boots_leads, leads_behind, leads_cut}
use Rattle.pico_top.proofs.Shared.{refl}
use Rattle.pico_top.proofs.open.open_run.Goals as goal

pub returns-in_err-image-2-clause-answer : goal.returns-in_err-image-2-clause-answer
returns-in_err-image-2-clause-answer g c aims =
    rw (← c.as_str.ensures.value)
    (leads_behind _ (c.in_ok-image.ensures.answer _) c.in_ok-image.ensures.kept (leads_cut _ c.from_residual-in_err-image-2.ensures.1 (c.in_err-image-2.ensures.answer _ _ _)))

pub returns-in_err-script-clause-answer : goal.returns-in_err-script-clause-answer
returns-in_err-script-clause-answer g c aims =
    rw (← c.as_str.ensures.value)
    (leads_behind _ (c.in_ok-image.ensures.answer _) c.in_ok-image.ensures.kept (leads_behind _ (c.in_ok-image-2.ensures.answer _ _ _) refl
    (leads_cut _ c.from_residual-in_err-script.ensures.1 (c.in_err-script.ensures.answer _))))

pub returns-in_err-loads-clause-answer : goal.returns-in_err-loads-clause-answer
returns-in_err-loads-clause-answer g c aims =
    let programs = rw c.deref.ensures.value at c.in_err-loads.ensures.answer in
    rw (← c.as_str.ensures.value)
    (leads_behind _ (c.in_ok-image.ensures.answer _) c.in_ok-image.ensures.kept (leads_behind _ (c.in_ok-image-2.ensures.answer _ _ _) refl
    (leads_behind _ (c.in_ok-script.ensures.answer _) c.in_ok-script.ensures.kept (leads_cut _ c.from_residual-in_err-loads.ensures.1 (programs.leads _)))))

pub returns-clause-answer : goal.returns-clause-answer
returns-clause-answer g c aims =
    let programs = rw c.deref.ensures.value at c.in_ok-loads.ensures.answer in
    let boots = rw c.deref-2.ensures.value at c.boot.ensures.ok in
    rw (← c.as_str.ensures.value)
    (leads_behind _ (c.in_ok-image.ensures.answer _) c.in_ok-image.ensures.kept (leads_behind _ (c.in_ok-image-2.ensures.answer _ _ _) refl
    (leads_behind _ (c.in_ok-script.ensures.answer _) c.in_ok-script.ensures.kept (leads_behind _ (programs.leads _) c.in_ok-loads.ensures.kept
    (boots_leads aims _ _ _ _ _ _ _ programs.after _ _ programs.placed boots c.boot.ensures.err)))))

use Rattle.pico_top.proofs.Shared.{refl, sym}
use Rattle.pico_top.specs.Dialogue.{drawn}
use Rattle.pico_top.proofs.Telling.{opened_converses, unopened_converses, tells_text}
use Rattle.pico_top.proofs.serve_with_by.Goals as goal

pub returns-in-Machine : goal.returns-in-Machine
returns-in-Machine g c =
    let told = rw (c.deref_mut.ensures.value, c.in-Ok.ensures, c.targets.ensures) at (c.run_into_by.ensures.told (drawn g.I.Source c.args.input.now)) in
    rw (c.out-1.given.1 (sym c.run_into_by.ensures.same_sink)) (opened_converses _ _ _ _ _ _ _ (c.in-Ok-open_reading.ensures.answer _) c.in-Ok-open_reading.ensures.kept (rw c.in-Machine.is told))

pub returns-in-Session : goal.returns-in-Session
returns-in-Session g c =
    opened_converses _ _ _ _ _ _ _ (c.in-Ok-open_reading.ensures.answer _) c.in-Ok-open_reading.ensures.kept (rw c.in-Session.is c.talk_into.ensures)

pub returns-in-Ok-open_reading : goal.returns-in-Ok-open_reading
returns-in-Ok-open_reading g c =
    opened_converses _ _ _ _ _ _ _ (c.in-Ok-open_reading.ensures.answer _) c.in-Ok-open_reading.ensures.kept (rw c.in-Text.is (tells_text _ _ _ _ _ _ (_, rw c.deref.ensures.value at c.send_text.ensures, c.sent_status.ensures)))

pub returns : goal.returns
returns g c = unopened_converses _ _ _ _ _ (c.in-Err.ensures.answer _).ended c.in-Err.ensures.kept refl c.refuse-in-Err.ensures refl

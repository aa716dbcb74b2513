use Rattle.pico_top.proofs.Telling.{run_ended, run_cut, run_none}
use Rattle.pico_top.proofs.tell.run_into.Goals as goal

pub returns-in-Ok-clause-told : goal.returns-in-Ok-clause-told
returns-in-Ok-clause-told g c source =
    let h = c.in-Ok.ensures in
    run_ended _ _ _ _ _ _ source _ _ _ _ _ _ _ h.told.ok.0 h.ran h.state h.on_run h.steps (_, c.send_last.ensures, c.sent_status.ensures)

pub returns-in-Err-Sink-clause-told : goal.returns-in-Err-Sink-clause-told
returns-in-Err-Sink-clause-told g c source =
    let h = rw c.in-Err-Sink.field-0-is at c.in-Err-Sink.ensures in
    let f = h.told.err in
    run_cut _ _ _ _ _ _ source _ _ _ _ _ f.first f.others f.event f.in_order f.taken.0 f.failed.0 h.told.cause h.told.count h.on_run h.steps

pub returns-clause-told : goal.returns-clause-told
returns-clause-told g c source =
    let h = rw c.in-Err-Memory.field-0-is at c.in-Err-Memory.ensures in
    run_none _ _ _ source _ _ _ _ _ h.memory.0 h.steps (rw h.memory.1 at c.run_out.ensures)

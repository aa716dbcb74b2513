use Rattle.window_runner.proofs.Shared.{Some, ap, refl, setting_of, sym, ◌∙◌}
use Rattle.window_runner.proofs.Onward.{cause_is, cycles_leave, leaves_at_stop, then_leaves, then_tells, way_same}
use Rattle.window_runner.proofs.windows.run_first_alone.Goals as goal

pub returns-in-Ok-Some : goal.returns-in-Ok-Some
returns-in-Ok-Some g c =
    let w = setting_of c.args.world.now.script.now (g.X.Device.meaning c.args.world.now.device.now) c.args.world.now.limit in
    let h = c.in-Ok-Some.ensures in
    let ran = c.uncounted.ensures in
    let k = leaves_at_stop {missed = g.T.Tape.missed} h.way (cause_is w _ c.run_to.new.machine c.in-Ok-Some.field-0-is h.cause ∙ ap Some (sym ran.why)) ran.windows ran.cycles in
    record { told = k.0; left = k.1 }

pub returns-in-Some : goal.returns-in-Some
returns-in-Some g c =
    let turn = g.met.T.Tape.takes_in_turn in
    let way = c.in-Ok-None.ensures.way in
    record { told = then_tells turn way c.in-Some.ensures.told; left = then_leaves turn way c.in-Some.ensures.left }

pub returns-in-None : goal.returns-in-None
returns-in-None g c =
    let turn = g.met.T.Tape.takes_in_turn in
    let way = way_same g.T.Tape.faults c.in-Ok-None.ensures.way (c.in-None.ensures.memory refl) in
    let h = c.run_cycles.ensures in
    record { told = then_tells turn way h.told; left = then_leaves turn way (cycles_leave c.run_cycles.result h.ran h.state h.failed h.on_run h.steps) }

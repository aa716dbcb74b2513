use Rattle.window_runner.proofs.Shared.{Some, ap, arith, setting_of, sym, ◌∙◌}
use Rattle.window_runner.proofs.Onward.{behind, cause_is, leaves_at_stop}
use Rattle.window_runner.proofs.cycles.run_cycles.Goals as goal

pub unreachable-requires : goal.unreachable-requires
unreachable-requires g c =
    let w = setting_of c.args.world.now.script.now (g.X.Device.meaning c.args.world.now.device.now) c.args.world.now.limit in
    let past = behind w _ c.run_to.new.machine c.in-Ok-None.field-0-is c.in-Ok-None.ensures.cause in
    let within = c.in-Ok-None.ensures.way.within in
    let bound = c.fact_limit_is_bounded.ensures in
    absurd (omega (arith, past, within, bound))

pub returns-in-Ok-Some : goal.returns-in-Ok-Some
returns-in-Ok-Some g c =
    let w = setting_of c.args.world.now.script.now (g.X.Device.meaning c.args.world.now.device.now) c.args.world.now.limit in
    let h = c.in-Ok-Some.ensures in
    let ran = c.uncounted.ensures in
    let k = leaves_at_stop {missed = g.T.Tape.missed} h.way (cause_is w _ c.run_to.new.machine c.in-Ok-Some.field-0-is h.cause ∙ ap Some (sym ran.why)) ran.windows ran.cycles in
    record { told = k.0; ran = k.1.ran; state = k.1.state; failed = tt; on_run = k.1.on_run; steps = k.1.steps }

use Rattle.window_runner.proofs.Shared.{Some, ap, arith, setting_of, sym, ◌∙◌}
use Rattle.window_runner.proofs.Courses.{few_marks, few_cycles, goes_on_way, goes_fails, goes_to_stop}
use Rattle.window_runner.proofs.Cycling.{way_first}
use Rattle.window_runner.proofs.Onward.{leaves_at_stop}
use Rattle.window_runner.proofs.coordinator.run_uncounted.Goals as goal

pub cycles-init : goal.cycles-init
cycles-init g c =
    let w = setting_of c.args.desk.now.world.now.script.now (g.X.Device.meaning c.args.desk.now.world.now.device.now) c.args.desk.now.world.now.limit in
    (way_first _ _ _ w c.args.machine.now _ g.met.T.Tape.takes_none c.requires.number, c.requires.ready)

pub first_told-cycle-requires : goal.first_told-cycle-requires
first_told-cycle-requires g c = few_marks c.in-None.ensures.goes

pub tell_marks-requires : goal.tell_marks-requires
tell_marks-requires g c = few_cycles c.in-None.ensures.goes _ _ c.fact_limit_is_bounded.ensures c.cycles.invariant.0.within c.first_told-cycle.ensures

pub cycles-smaller : goal.cycles-smaller
cycles-smaller g c = let on = c.in-None.ensures.on in let within = c.in-None.ensures.within in omega (arith, on, within)

pub cycles-preserved : goal.cycles-preserved
cycles-preserved g c =
    let h = c.in-None.ensures in
    (goes_on_way _ _ g.met.T.Tape.takes_in_turn c.cycles.invariant.0 h.goes c.first_told-cycle.ensures c.pads-before.ensures c.in-Ok.ensures, h.ready)

pub returns-in-Some : goal.returns-in-Some
returns-in-Some g c =
    let h = c.in-Some.ensures in
    let k = goes_to_stop c.cycles.invariant.0 h.goes in
    let ran = c.uncounted.ensures in
    let left = leaves_at_stop k.0 (k.1 ∙ ap Some (sym ran.why)) ran.windows ran.cycles in
    record { told = left.0; left = left.1; ready = h.ready }

pub returns-in-Err : goal.returns-in-Err
returns-in-Err g c =
    let h = c.in-None.ensures in
    let k = goes_fails _ _ g.met.T.Tape.takes_in_turn c.cycles.invariant.0 h.goes c.first_told-cycle.ensures c.pads-before.ensures c.in-Err.ensures in
    record { told = k.0; left = record { ran = tt; state = tt; failed = k.1; on_run = k.2; steps = k.3 }; ready = h.ready }

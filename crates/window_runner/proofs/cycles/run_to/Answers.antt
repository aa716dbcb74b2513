use Rattle.window_runner.proofs.Shared.{arith, setting_of}
use Rattle.window_runner.proofs.Courses.{few_marks, few_cycles, goes_on_way, goes_fails, goes_to_stop}
use Rattle.window_runner.proofs.Cycling.{way_first}
use Rattle.window_runner.proofs.Onward.{way_on_run}
use Rattle.window_runner.proofs.cycles.run_to.Goals as goal

pub cycles-init : goal.cycles-init
cycles-init g c =
    let w = setting_of c.args.world.now.script.now (g.X.Device.meaning c.args.world.now.device.now) c.args.world.now.limit in
    way_first _ _ _ w c.args.machine.now _ g.met.T.Tape.takes_none c.requires.number

pub first_told-cycle-requires : goal.first_told-cycle-requires
first_told-cycle-requires g c = few_marks c.in-None.ensures.goes

pub tell_marks-requires : goal.tell_marks-requires
tell_marks-requires g c = few_cycles c.in-None.ensures.goes _ _ c.fact_limit_is_bounded.ensures c.cycles.invariant.within c.first_told-cycle.ensures

pub cycles-smaller : goal.cycles-smaller
cycles-smaller g c = let on = c.in-None.ensures.on in let within = c.in-None.ensures.within in omega (arith, on, within)

pub cycles-preserved : goal.cycles-preserved
cycles-preserved g c = goes_on_way _ _ g.met.T.Tape.takes_in_turn c.cycles.invariant c.in-None.ensures.goes c.first_told-cycle.ensures c.pads-before.ensures c.in-Ok.ensures

pub returns-then-until-number-clause-on_run : goal.returns-then-until-number-clause-on_run
returns-then-until-number-clause-on_run g c = way_on_run c.cycles.invariant

pub returns-in-Some : goal.returns-in-Some
returns-in-Some g c =
    let k = goes_to_stop c.cycles.invariant c.in-Some.ensures.goes in
    record { way = k.0; cause = k.1; told = tt; failed = tt; on_run = way_on_run k.0; steps = k.0.steps }

pub returns-in-Err : goal.returns-in-Err
returns-in-Err g c =
    let k = goes_fails _ _ g.met.T.Tape.takes_in_turn c.cycles.invariant c.in-None.ensures.goes c.first_told-cycle.ensures c.pads-before.ensures c.in-Err.ensures in
    record { way = tt; cause = tt; told = k.0; failed = k.1; on_run = k.2; steps = k.3 }

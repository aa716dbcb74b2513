use Rattle.window_runner.proofs.Shared.{arith, setting_of}
use Rattle.window_runner.proofs.Quietly.{not_farther, underway_over}
use Rattle.window_runner.proofs.Underway.{underway_first, underway_on, underway_nearer, underway_stops, underway_fails}
use Rattle.window_runner.proofs.coordinator.run.Goals as goal

pub steps-init : goal.steps-init
steps-init g c =
    let w = setting_of c.args.desk.now.world.now.script.now (g.X.Device.meaning c.args.desk.now.world.now.device.now) c.args.desk.now.world.now.limit in
    (underway_first _ _ _ w c.args.machine.now _ g.met.T.Tape.takes_none c.requires.number, c.requires.ready, c.begin_into.ensures)

pub pass_quiet-requires-clause-number : goal.pass_quiet-requires-clause-number
pass_quiet-requires-clause-number g c κs within =
    (underway_on g.met.T.Tape.takes_in_turn c.steps.invariant.0 (rw c.in-Ok-None.field-0-is at c.in-Ok-None.ensures.step)).reached.within

pub pass_quiet-requires-clause-windows : goal.pass_quiet-requires-clause-windows
pass_quiet-requires-clause-windows g c κs within =
    let few = (underway_on g.met.T.Tape.takes_in_turn c.steps.invariant.0 (rw c.in-Ok-None.field-0-is at c.in-Ok-None.ensures.step)).reached.counted.windows in
    omega (arith, few)

pub steps-smaller : goal.steps-smaller
steps-smaller g c =
    let w = setting_of c.args.desk.now.world.now.script.now (g.X.Device.meaning c.args.desk.now.world.now.device.now) c.args.desk.now.world.now.limit in
    let nearer = underway_nearer g.met.T.Tape.takes_in_turn c.steps.invariant.0 (rw c.in-Ok-None.field-0-is at c.in-Ok-None.ensures.step) in
    let over = not_farther w _ _ _ _ c.pass_quiet.ensures.passed in
    omega (arith, nearer, over)

pub steps-preserved : goal.steps-preserved
steps-preserved g c =
    let h = c.in-Ok-None.ensures in
    let on = underway_on g.met.T.Tape.takes_in_turn c.steps.invariant.0 (rw c.in-Ok-None.field-0-is at h.step) in
    (underway_over g.T.Tape.missed g.met.T.Tape.takes_none g.met.T.Tape.takes_in_turn on c.pass_quiet.ensures.passed, h.ready, c.pass_quiet.ensures.begun)

pub returns-in-Ok-Some : goal.returns-in-Ok-Some
returns-in-Ok-Some g c =
    let k = underway_stops g.met.T.Tape.takes_in_turn c.steps.invariant.0 c.in-Ok-Some.why (rw c.in-Ok-Some.field-0-is at c.in-Ok-Some.ensures.step) in
    record { told = k.0; left = k.1; ready = c.in-Ok-Some.ensures.ready }

pub returns-in-Err : goal.returns-in-Err
returns-in-Err g c =
    let k = underway_fails g.met.T.Tape.takes_in_turn c.steps.invariant.0 c.in-Err.fault c.in-Err.ensures.step in
    record { told = k.0; left = k.1; ready = c.in-Err.ensures.ready }

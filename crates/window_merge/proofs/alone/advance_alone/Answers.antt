use Rattle.window_merge.proofs.Shared.{arith, setting_of, sym, ◌∙◌}
use Rattle.window_merge.proofs.Going.{way_first, way_cycle, way_stopped}
use Rattle.window_merge.proofs.alone.advance_alone.Goals as goal

pub loop-marks-init : goal.loop-marks-init
loop-marks-init g c = search (arith, way_first)

pub returns-in-Some-clause-state : goal.returns-in-Some-clause-state
returns-in-Some-clause-state g c =
    let w = setting_of c.args.world.now.script.now (g.X.Device.meaning c.args.world.now.device.now) c.args.world.now.limit in
    c.in-Some.ensures.state
    ∙ way_stopped w c.args.machine.now c.args.to c.loop-marks.machine c.args.steps.now c.loop-marks.steps c.in-Some.why c.loop-marks.invariant (sym c.in-Some.ensures.cause)

pub loop-marks-preserved : goal.loop-marks-preserved
loop-marks-preserved g c =
    let w = setting_of c.args.world.now.script.now (g.X.Device.meaning c.args.world.now.device.now) c.args.world.now.limit in
    let below = c.loop-marks-test.true in
    let number = c.number.ensures in
    way_cycle w c.args.machine.now c.args.to c.loop-marks.machine c.args.steps.now c.loop-marks.steps c.cycle.new.self c.cycle.new.steps
    c.loop-marks.invariant (omega (arith, below, number)) (sym c.in_default.ensures.cause) c.in_default.ensures.state c.in_default.ensures.steps

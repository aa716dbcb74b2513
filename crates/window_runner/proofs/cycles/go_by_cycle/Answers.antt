use Rattle.window_runner.proofs.Shared.{State, along_states, setting_of, subst, sym, ◌≤◌}
use Rattle.window_runner.proofs.Courses.{by_cycle}
use Rattle.window_runner.proofs.cycles.go_by_cycle.Goals as goal

pub cycle_of-requires-clause-number : goal.cycle_of-requires-clause-number
cycle_of-requires-clause-number g c κs within =
    let w = setting_of c.args.world.now.script.now (g.X.Device.meaning c.args.world.now.device.now) c.args.world.now.limit in
    subst (λ (x : State). x.cycle ≤ w.limit) (sym c.pass_due.ensures.state) (along_states w c.args.machine.now c.pass_due.result c.requires.number).within

pub returns : goal.returns
returns g c =
    let w = setting_of c.args.world.now.script.now (g.X.Device.meaning c.args.world.now.device.now) c.args.world.now.limit in
    let h = c.cycle_of.ensures in
    let k = by_cycle w c.args.machine.now c.pass_due.new.machine c.cycle_of.new.self c.pass_due.result _ c.cycle_of.new.marks c.args.steps.now c.pass_due.new.steps c.cycle_of.new.steps c.cycle_of.result
    c.requires.number c.pass_due.ensures.quiet c.pass_due.ensures.state c.pass_due.ensures.steps h.cause h.state h.marks h.steps in
    record { goes = k.goes; on = k.on; within = k.within }

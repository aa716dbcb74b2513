use Rattle.window_runner.proofs.Shared.{ap, arith, setting_of, states, subst, sym, ◌∙◌, ◌≤◌}
use Rattle.window_runner.proofs.Along.{no_cycles}
use Rattle.window_runner.proofs.Failing.{few_in_window}
use Rattle.window_runner.proofs.coordinator.go_over.Goals as goal

pub returns-then-length-eq0-clause-none : goal.returns-then-length-eq0-clause-none
returns-then-length-eq0-clause-none g c =
    let w = setting_of c.args.desk.now.world.now.script.now (g.X.Device.meaning c.args.desk.now.world.now.device.now) c.args.desk.now.world.now.limit in
    let h = c.window_over-length.ensures in
    let none = c.if-length-eq0.true in
    let steps = h.steps in
    (h.state ∙ ap (states w c.args.machine.now) none ∙ no_cycles w c.args.machine.now, omega (arith, steps, none))

pub returns-else-length-eq0-clause-over : goal.returns-else-length-eq0-clause-over
returns-else-length-eq0-clause-over g c =
    let w = setting_of c.args.desk.now.world.now.script.now (g.X.Device.meaning c.args.desk.now.world.now.device.now) c.args.desk.now.world.now.limit in
    let h = c.window_over-length.ensures in
    let some = c.if-length-eq0.false in
    record {
      some = omega (arith, some);
      few = subst (λ k. k ≤ 256) (sym h.length) (few_in_window w c.args.machine.now);
      state = h.state;
      number = h.number;
      left = h.marks;
      steps = h.steps;
    }

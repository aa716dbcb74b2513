use Rattle.window_runner.proofs.Shared.{IfNone, State, along_states, arith, setting_of, subst, sym, ◌<◌, ◌≤◌}
use Rattle.window_runner.specs.Course.{Goes}
use Rattle.window_runner.proofs.Courses.{goes_by_window, goes_few}
use Rattle.window_runner.proofs.coordinator.go_on.Goals as goal

pub returns-in-Some : goal.returns-in-Some
returns-in-Some g c =
    let w = setting_of c.args.desk.now.world.now.script.now (g.X.Device.meaning c.args.desk.now.world.now.device.now) c.args.desk.now.world.now.limit in
    let h = c.in-Some.ensures.over in
    let some = h.some in
    let number = h.number in
    record {
      goes = goes_by_window w _ c.args.machine.now c.go_over.new.machine c.go_over.new.marks c.args.steps.now c.go_over.new.steps h;
      on = omega (arith, some, number);
      within = subst (λ (x : State). x.cycle ≤ w.limit) (sym h.state) (along_states w c.args.machine.now _ c.requires.number).within;
      ready = c.in-Some.ensures.ready;
    }

pub returns-in-None : goal.returns-in-None
returns-in-None g c =
    let w = setting_of c.args.desk.now.world.now.script.now (g.X.Device.meaning c.args.desk.now.world.now.device.now) c.args.desk.now.world.now.limit in
    let h = c.go_by_cycle.ensures in
    let none = c.in-None.ensures.none in
    let goes = goes_few w 1 256 c.go_over.new.machine c.go_by_cycle.new.machine c.go_by_cycle.new.marks c.go_over.new.steps c.go_by_cycle.new.steps c.go_by_cycle.result (omega arith) h.goes in
    record {
      goes = subst (λ (x : State). Goes w 256 x c.go_by_cycle.new.machine c.go_by_cycle.new.marks c.args.steps.now c.go_by_cycle.new.steps c.go_by_cycle.result) none.0
          (subst (λ n. Goes w 256 c.go_over.new.machine c.go_by_cycle.new.machine c.go_by_cycle.new.marks n c.go_by_cycle.new.steps c.go_by_cycle.result) none.1 goes);
      on = subst (λ (x : State). IfNone c.go_by_cycle.result (x.cycle < c.go_by_cycle.new.machine.cycle)) none.0 h.on;
      within = h.within;
      ready = c.in-None.ensures.ready;
    }

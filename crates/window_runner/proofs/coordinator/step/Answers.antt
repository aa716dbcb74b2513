use Rattle.window_runner.proofs.Shared.{refl, setting_of}
use Rattle.window_runner.proofs.Stepping.{one_window_more, cycles_more, marks_behind, mark_behind, stopped, by_window_told, by_cycle_told}
use Rattle.window_runner.proofs.coordinator.step.Goals as goal

pub count_window-requires : goal.count_window-requires
count_window-requires g c =
    let w = setting_of c.args.desk.now.world.now.script.now (g.X.Device.meaning c.args.desk.now.world.now.device.now) c.args.desk.now.world.now.limit in
    let h = c.in-Window.ensures.moved in
    record {
      windows = one_window_more w c.args.machine.now c.args.counts.now _ c.fact_limit_is_bounded.ensures h.0 c.requires.number h.1 c.requires.windows;
      cycles = cycles_more w c.args.machine.now c.go.new.machine _ _ _ c.fact_limit_is_bounded.ensures c.requires.number h.3 h.6 c.requires.cycles;
    }

pub tell_step-requires : goal.tell_step-requires
tell_step-requires g c =
    let w = setting_of c.args.desk.now.world.now.script.now (g.X.Device.meaning c.args.desk.now.world.now.device.now) c.args.desk.now.world.now.limit in
    let h = c.in-Window.ensures.moved in
    marks_behind w c.args.machine.now c.go.new.machine _ _ _ _ c.fact_limit_is_bounded.ensures c.requires.number h.3 h.6 c.number-cycle.ensures h.4

pub tell_step-requires-in-Cycle : goal.tell_step-requires-in-Cycle
tell_step-requires-in-Cycle g c =
    let w = setting_of c.args.desk.now.world.now.script.now (g.X.Device.meaning c.args.desk.now.world.now.device.now) c.args.desk.now.world.now.limit in
    let h = c.in-Cycle.ensures.moved in
    mark_behind w c.args.machine.now _ _ _ c.fact_limit_is_bounded.ensures h.0 c.requires.number c.number-cycle.ensures h.3

pub returns-in-Stopped-clause-step : goal.returns-in-Stopped-clause-step
returns-in-Stopped-clause-step g c =
    let w = setting_of c.args.desk.now.world.now.script.now (g.X.Device.meaning c.args.desk.now.world.now.device.now) c.args.desk.now.world.now.limit in
    stopped _ _ _ _ w c.args.machine.now c.go.new.machine c.args.counts.now c.in-Stopped.why _ _ g.met.T.Tape.takes_none c.in-Stopped.ensures.moved

pub returns-in-Window-clause-step : goal.returns-in-Window-clause-step
returns-in-Window-clause-step g c =
    let w = setting_of c.args.desk.now.world.now.script.now (g.X.Device.meaning c.args.desk.now.world.now.device.now) c.args.desk.now.world.now.limit in
    let n = c.count_window.ensures in
    by_window_told w c.args.machine.now c.go.new.machine c.args.counts.now c.count_window.new.counts c.in-Window.length _ _ _ _ _ _ c.tell_step.ensures.none
    c.number-cycle.ensures c.pads-before.ensures c.in-Window.ensures.moved n.windows n.cycles n.after_empty c.tell_step.ensures.told

pub returns-in-Cycle-clause-step : goal.returns-in-Cycle-clause-step
returns-in-Cycle-clause-step g c =
    let w = setting_of c.args.desk.now.world.now.script.now (g.X.Device.meaning c.args.desk.now.world.now.device.now) c.args.desk.now.world.now.limit in
    by_cycle_told w c.args.machine.now c.go.new.machine c.args.counts.now _ _ _ _ _ _ _ c.tell_step-in-Cycle.ensures.none
    c.number-cycle.ensures c.pads-before.ensures c.in-Cycle.ensures.moved refl refl refl c.tell_step-in-Cycle.ensures.told

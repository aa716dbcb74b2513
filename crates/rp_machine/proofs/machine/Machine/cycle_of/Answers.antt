use Rattle.rp_machine.proofs.Shared.{State, ap, arith, setting_of, sym, ◌∙◌, ◌≡◌}
use Rattle.rp_machine.proofs.Inward.{stop_none}
use Rattle.rp_machine.proofs.OneCore.{goes_on, next_first, next_wantless, next_begun}
use Rattle.rp_machine.proofs.machine.Machine.cycle_of.Goals as goal

pub returns-then-is_bus_free-clause-cause : goal.returns-then-is_bus_free-clause-cause
returns-then-is_bus_free-clause-cause g c =
    let w = setting_of c.args.world.now.script.now (g.X.Device.meaning c.args.world.now.device.now) c.args.world.now.limit in
    let first = sym c.is_core0_first-first.ensures ∙ c.if-first.true in
    let free = c.is_bus_free.ensures.0 c.if-is_bus_free.true in
    let at : c.self.inside.at ≡ c.args.self.now.cycle = ap (λ (s : State). s.cycle) c.self.view_is in
    sym (stop_none w c.args.self.now (omega (arith, at, c.requires.number, c.if-self-world.false)) (goes_on w c.args.lanes.now c.args.self.now c.requires.begun first free.0))

pub returns-then-is_bus_free-clause-state : goal.returns-then-is_bus_free-clause-state
returns-then-is_bus_free-clause-state g c =
    let w = setting_of c.args.world.now.script.now (g.X.Device.meaning c.args.world.now.device.now) c.args.world.now.limit in
    let first = sym c.is_core0_first-first.ensures ∙ c.if-first.true in
    let free = c.is_bus_free.ensures.0 c.if-is_bus_free.true in
    c.step_wantless.ensures.state ∙ next_wantless w c.args.lanes.now c.args.self.now first free.0 free.1
    ∙ next_begun w c.args.lanes.now c.args.self.now c.requires.begun

pub returns-then-first-3-clause-state : goal.returns-then-first-3-clause-state
returns-then-first-3-clause-state g c =
    let w = setting_of c.args.world.now.script.now (g.X.Device.meaning c.args.world.now.device.now) c.args.world.now.limit in
    let first = sym c.is_core0_first-first.ensures ∙ c.if-first-3.true in
    c.step_for_core0.ensures.state ∙ next_first w c.args.lanes.now c.args.self.now first
    ∙ next_begun w c.args.lanes.now c.args.self.now c.requires.begun

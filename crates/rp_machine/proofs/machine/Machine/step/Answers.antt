use Rattle.rp_machine.proofs.Shared.{setting_of, sym, ◌∙◌}
use Rattle.rp_machine.proofs.OneCore.{next_first, next_wantless}
use Rattle.rp_machine.proofs.machine.Machine.step.Goals as goal

pub returns-then-is_bus_free-clause-state : goal.returns-then-is_bus_free-clause-state
returns-then-is_bus_free-clause-state g c =
    let w = setting_of c.args.world.now.script.now (g.X.Device.meaning c.args.world.now.device.now) c.args.world.now.limit in
    let first = sym c.is_core0_first.ensures ∙ c.if-not-is_core0_first.false in
    let free = c.is_bus_free.ensures.0 c.if-is_bus_free.true in
    c.step_wantless.ensures.state ∙ next_wantless w c.args.begun.now c.args.self.now first free.0 free.1

pub returns-else-is_bus_free-clause-state : goal.returns-else-is_bus_free-clause-state
returns-else-is_bus_free-clause-state g c =
    let w = setting_of c.args.world.now.script.now (g.X.Device.meaning c.args.world.now.device.now) c.args.world.now.limit in
    let first = sym c.is_core0_first.ensures ∙ c.if-not-is_core0_first.false in
    c.step_for_core0.ensures.state ∙ next_first w c.args.begun.now c.args.self.now first

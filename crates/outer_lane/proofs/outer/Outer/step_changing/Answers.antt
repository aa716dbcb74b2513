use Rattle.std.proofs.Common.{ap, ◌∙◌}
use Rattle.outer_lane.specs.State.{State}
use Rattle.outer_lane.proofs.Staying.{any_next, any_marked}
use Rattle.outer_lane.proofs.outer.Outer.step_changing.Goals as goal

pub returns-clause-state : goal.returns-clause-state
returns-clause-state c =
    let d = c.drivers-drivers.ensures in
    ap (λ (x : State). record x { irq = c.args.wires.irq }) c.self.view_is
    ∙ any_next _ _ _ _ _ _ _ d.outs d.driven d.high c.step_blocks-uart.ensures.after c.step_driven-pads.ensures.after

pub returns-clause-mark : goal.returns-clause-mark
returns-clause-mark c =
    let d = c.drivers-drivers.ensures in
    let uart = c.step_blocks-uart.ensures in
    any_marked _ _ _ _ _ _ _ _ d.outs d.driven d.high uart.after uart.bytes c.step_driven-pads.ensures.levels

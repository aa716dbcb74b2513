use Rattle.std.proofs.Common.{◌≡◌, refl, ap, ◌∙◌}
use Rattle.outer_lane.specs.Setting.{setting}
use Rattle.outer_lane.specs.State.{State}
use Rattle.outer_lane.specs.Step.{wires_of}
use Rattle.outer_lane.proofs.Cycles.{settled_by}
use Rattle.outer_lane.proofs.outer.Outer.is_settled.Goals as goal

pub returns : goal.returns
returns g c t =
    let d = g.X.Device.meaning c.args.world.now.device.now in
    let s = c.args.self.now in
    let e : c.driven_by-wires.result ≡ wires_of d c.args.seen.now.cycle s =
    rw (c.driven_by-wires.ensures, c.pads-levels.ensures, ← c.self.view_is) refl in
    settled_by (setting g.X.Device.meaning c.args.world.now) c.args.seen.now s _ c.drives-drives.result e
    c.drives-drives.ensures (c.stays_by.ensures t) (c.if-wires-self.false ∙ ap (λ (x : State). x.irq) c.self.view_is)

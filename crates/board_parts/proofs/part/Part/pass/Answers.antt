use Rattle.std.proofs.Common.{length, sym, ap, ◌∙◌, arith}
use Rattle.lane_look.specs.Quiet.{device_after}
use Rattle.board_parts.specs.Parts.{part_device, placed_at}
use Rattle.board_parts.proofs.Quiet.{one_more, up_to}
use Rattle.board_parts.proofs.part.Part.pass.Goals as goal

pub loop-k-preserved : goal.loop-k-preserved
loop-k-preserved g c =
    let p = placed_at (g.Self.Part.attached c.args.self.now) (g.Self.Part.meaning c.args.self.now) in
    let d = part_device p in
    let next = one_more p c.args.pads c.args.first c.loop-k.k c.args.state.now _ _ c.loop-k.invariant.0 c.step.ensures.state in
    (next, up_to d.count c.loop-k.k (λ j. length (device_after d c.args.pads c.args.first j c.args.state.now)) c.loop-k.invariant.1 (ap length (sym next) ∙ omega arith))

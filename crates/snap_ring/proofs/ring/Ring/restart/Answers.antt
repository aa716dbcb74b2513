use Rattle.std.proofs.Common.{arith}
use Rattle.snap_ring.proofs.Keeping.{sound_again, view_again}
use Rattle.snap_ring.proofs.ring.Ring.restart.Goals as goal

pub invariant_of-self : goal.invariant_of-self
invariant_of-self c =
    let i = c.self.inside in (
      sound_again i.spacing i.origin c.args.origin i.free i.snapshots.items i.pages.items c.clear.new.self.items c.self.invariant.0 c.clear.ensures.items,
      omega (arith, c.self.invariant.1, c.clear.ensures.capacity),
    )

pub returns : goal.returns
returns c =
    let i = c.self.inside in
    view_again i.spacing i.origin c.args.origin i.free i.snapshots.items i.pages.items c.clear.new.self.items c.args.self.now c.self.invariant.0 c.self.view_is

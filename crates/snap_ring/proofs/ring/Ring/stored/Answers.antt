use Rattle.std.proofs.Common.{arith}
use Rattle.snap_ring.proofs.Keeping.{stored-small}
use Rattle.snap_ring.proofs.ring.Ring.stored.Goals as goal

pub overflow_cast-result : goal.overflow_cast-result
overflow_cast-result c =
    let i = c.self.inside in
    omega (arith, c.len.ensures, stored-small i.spacing i.origin i.free i.snapshots.items i.pages.items c.self.invariant.0)

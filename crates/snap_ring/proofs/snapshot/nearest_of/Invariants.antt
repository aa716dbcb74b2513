use Rattle.std.proofs.Common.{ℕ, List, take}
use Rattle.snap_ring.specs.Ring.{IsNearest}
use Rattle.snap_ring.specs.Snapshot.{states_in}
use Rattle.snap_ring.proofs.snapshot.nearest_of.Given as goal

abbrev pub invariant-loop-snapshot : goal.invariant-loop-snapshot
invariant-loop-snapshot l = (pages : List (List ℕ)) → IsNearest l.cycle (states_in pages (take l.snapshot-index l.snapshots)) l.nearest

use Rattle.std.proofs.Common.{◌≡◌, drop}
use Rattle.snap_ring.specs.Snapshot.{snapshot_at}
use Rattle.snap_ring.proofs.snapshot.find.Given as goal

abbrev pub invariant-loop-snapshot : goal.invariant-loop-snapshot
invariant-loop-snapshot l = snapshot_at l.cycle (drop l.snapshot-index l.snapshots) ≡ snapshot_at l.cycle l.snapshots

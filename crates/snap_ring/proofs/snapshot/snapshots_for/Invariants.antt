use Rattle.std.proofs.Common.{◌≡◌, vec_len}
use Rattle.snap_ring.proofs.snapshot.snapshots_for.Given as goal

abbrev pub invariant-loop : goal.invariant-loop
invariant-loop l = vec_len l.snapshots ≡ l.counter

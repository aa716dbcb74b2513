use Rattle.std.proofs.Common.{List, subst}
use Rattle.snap_ring.specs.declared.snapshot.Snapshot.{Snapshot}
use Rattle.snap_ring.specs.Ring.{Snapshots, IsNearest}
use Rattle.snap_ring.specs.Snapshot.{states_in}
use Rattle.snap_ring.proofs.Finding.{slice_from}
use Rattle.snap_ring.proofs.ring.Ring.nearest.Goals as goal

pub returns : goal.returns
returns c =
    let i = c.self.inside in
    subst (λ (v : Snapshots). IsNearest c.args.cycle v.kept c.nearest_of.result) c.self.view_is
    (subst (λ (l : List Snapshot). IsNearest c.args.cycle (states_in i.pages.items l) c.nearest_of.result)
    (slice_from i.free c.deref.result.now i.snapshots.items c.deref.ensures.value) (c.nearest_of.ensures i.pages.items))

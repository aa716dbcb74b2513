use Rattle.std.proofs.Common.{◌≡◌, ◌<◌, ◌≤◌, ◌+◌, [], ◌∷◌, ◌++◌, take, sym, ap, ◌∙◌, subst, arith, Some, None}
use Rattle.std.proofs.lemmas.List.{map_more, take_all}
use Rattle.snap_ring.specs.Ring.{greater_of, IsNearest}
use Rattle.snap_ring.specs.Snapshot.{state_in, states_in}
use Rattle.snap_ring.proofs.Nearest.{nearest_low, nearest_high, nearest_both, joined}
use Rattle.snap_ring.proofs.snapshot.nearest_of.Goals as goal

pub loop-snapshot-preserved-then-kept-cycle : goal.loop-snapshot-preserved-then-kept-cycle
loop-snapshot-preserved-then-kept-cycle c = λ pages.
    let i = c.loop-snapshot.snapshot-index in
    let snapshots = c.args.snapshots.now in
    let item = c.snapshot-item.result in
    let before = states_in pages (take i snapshots) in
    let more : states_in pages (take (i + 1) snapshots) ≡ before ++ state_in pages item ∷ [] =
    map_more (state_in pages) snapshots i item c.loop-snapshot-test.true ∙ ap (λ p. before ++ state_in pages p ∷ []) (sym c.snapshot-item.is) in
    let high : c.args.cycle < item.rest.cycle = omega (arith, c.number-kept.ensures, c.if-kept-cycle.true) in
    subst (λ l. IsNearest c.args.cycle l c.loop-snapshot.nearest) (sym more)
    (nearest_both c.args.cycle before (state_in pages item ∷ []) None c.loop-snapshot.nearest (nearest_high c.args.cycle (state_in pages item) high) (c.loop-snapshot.invariant pages))

pub loop-snapshot-preserved : goal.loop-snapshot-preserved
loop-snapshot-preserved c = λ pages.
    let i = c.loop-snapshot.snapshot-index in
    let snapshots = c.args.snapshots.now in
    let item = c.snapshot-item.result in
    let before = states_in pages (take i snapshots) in
    let more : states_in pages (take (i + 1) snapshots) ≡ before ++ state_in pages item ∷ [] =
    map_more (state_in pages) snapshots i item c.loop-snapshot-test.true ∙ ap (λ p. before ++ state_in pages p ∷ []) (sym c.snapshot-item.is) in
    let low : item.rest.cycle ≤ c.args.cycle = omega (arith, c.number-kept.ensures, c.if-kept-cycle.false) in
    joined c.args.cycle (states_in pages (take (i + 1) snapshots)) (before ++ state_in pages item ∷ []) _ _ more (c.greater_of-nearest.ensures ∙ ap (λ n. greater_of (Some n) c.loop-snapshot.nearest) c.number-kept.ensures)
    (nearest_both c.args.cycle before (state_in pages item ∷ []) (Some item.rest.cycle) c.loop-snapshot.nearest (nearest_low c.args.cycle (state_in pages item) low) (c.loop-snapshot.invariant pages))

pub returns : goal.returns
returns c = λ pages.
    subst (λ l. IsNearest c.args.cycle (states_in pages l) c.loop-snapshot.nearest) (take_all c.loop-snapshot.snapshot-index c.args.snapshots.now c.loop-snapshot-test.false)
    (c.loop-snapshot.invariant pages)

use Rattle.std.proofs.Common.{◌≡◌, [], List, length, drop, sym, ap, arith, subst}
use Rattle.std.proofs.lemmas.List.{drop_all}
use Rattle.snap_ring.specs.declared.snapshot.Snapshot.{Snapshot}
use Rattle.snap_ring.specs.Snapshot.{AreSound, states_in}
use Rattle.snap_ring.proofs.Keeping.{sound_at_start}
use Rattle.snap_ring.proofs.ring.Ring.with_spacing.Goals as goal

pub invariant_of-result : goal.invariant_of-result
invariant_of-result c =
    let long : length c.in_ok-snapshots_for.field-0.items ≡ 64 = omega (arith, c.in_ok-snapshots_for.ensures) in (
      subst (AreSound c.args.spacing 0 64 c.in_ok-snapshots_for.field-0.items) (sym c.in_ok-with_capacity.ensures.items)
          (sound_at_start c.args.spacing 0 c.in_ok-snapshots_for.field-0.items c.requires.some c.requires.small long),
      omega (arith, c.in_ok-with_capacity.ensures.exact),
    )

pub returns : goal.returns
returns c =
    let none : drop 64 c.in_ok-snapshots_for.field-0.items ≡ [] = drop_all 64 c.in_ok-snapshots_for.field-0.items (omega (arith, c.in_ok-snapshots_for.ensures)) in
    ap (λ (l : List Snapshot). record { spacing = c.args.spacing; origin = 0; kept = states_in c.in_ok-with_capacity.field-0.items l }) none

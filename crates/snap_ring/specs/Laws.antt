-- What holds of snapshots, in other words than their definition.
use Rattle.std.specs.Prelude.{◌≡◌, ℕ, true, Some}
use Rattle.rp_machine.specs.State.{State}
use Rattle.snap_ring.specs.Ring.{Snapshots, is_kept, is_due, kept_with, state_at}

-- a state that is to be kept is found by its cycle, and whatever is kept stays as it is, whichever state is offered later
pub record IsFaithful (ring : Snapshots) (s : State) : Type 0 where
  pub mine : is_due ring.spacing ring.origin ring.kept s.cycle ≡ true → state_at s.cycle (kept_with s ring).kept ≡ Some s
  pub others : (cycle : ℕ) → is_kept cycle ring.kept ≡ true → state_at cycle (kept_with s ring).kept ≡ state_at cycle ring.kept

abbrev pub KeepingIsFaithful : Type 0
KeepingIsFaithful = (ring : Snapshots) (s : State) → IsFaithful ring s

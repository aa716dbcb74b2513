-- What is kept of a machine: its states at some of the cycles that are a spacing apart, from one on (the project's own).
use Rattle.std.specs.Prelude.{◌≡◌, ◌≤◌, ◌<◌, ℕ, ◌+◌, ◌-◌, ◌*◌, ◌/◌, ◌%◌, ◌==◌, max, Bool, true, not, ◌&&◌, nat_lt, nat_le, if◌then◌else◌, List, [], ◌∷◌, Option, Some, None}
use Rattle.std.specs.List.{list_any}
use Rattle.rp_machine.specs.State.{State}
use Rattle.snap_ring.specs.Pages.{differing}

pub record Snapshots : Type 0 where
  -- how many cycles apart the snapshots are
  pub spacing : ℕ
  -- the first cycle of which one may be kept
  pub origin : ℕ
  -- the states, the one that was kept last first
  pub kept : List State

-- how far apart: 64 of them reach up to the limit, and no two are nearer than 4096 cycles
abbrev pub spacing_of : ℕ → ℕ
spacing_of limit = max 4096 ((limit + 63) / 64)

-- how far apart on one stretch between two snapshots of another ring: 64 of them fill it
abbrev pub near_spacing : ℕ → ℕ
near_spacing spacing = max 1 ((spacing + 63) / 64)

-- a state of this cycle is kept
abbrev pub is_kept : ℕ → List State → Bool
is_kept cycle kept = list_any (λ s. s.cycle == cycle) kept

-- the stretch of which states may be kept: from the origin on, below 64 spacings from there
abbrev pub is_within : ℕ → ℕ → ℕ → Bool
is_within spacing origin cycle = nat_le origin cycle && nat_lt (cycle - origin) (64 * spacing)

-- a state of this cycle is to be kept: it is within the stretch, a multiple of the spacing from the origin, and none of it is kept
abbrev pub is_due : ℕ → ℕ → List State → ℕ → Bool
is_due spacing origin kept cycle =
    is_within spacing origin cycle && (((cycle - origin) % spacing == 0) && not (is_kept cycle kept))

-- what is kept after a state was offered
abbrev pub kept_with : State → Snapshots → Snapshots
kept_with s ring = if is_due ring.spacing ring.origin ring.kept s.cycle then record ring { kept = s ∷ ring.kept } else ring

-- another stretch is begun, of which nothing is kept
abbrev pub restarted : ℕ → Snapshots → Snapshots
restarted origin ring = record ring { origin = origin; kept = [] }

-- the state of this cycle that is kept
abbrev pub state_at : ℕ → List State → Option State
state_at cycle [] = None
state_at cycle (s ∷ older) = if s.cycle == cycle then Some s else state_at cycle older

-- the state that a machine is set to; where there is none, it keeps its own
abbrev pub restored : Option State → State → State
restored None own = own
restored (Some s) own = s

-- the greatest of the kept cycles that are not above this one
pub record IsGreatest (cycle : ℕ) (kept : List State) (found : ℕ) : Type 0 where
  pub is_one : is_kept found kept ≡ true
  pub reached : found ≤ cycle
  pub greatest : (other : ℕ) → is_kept other kept ≡ true → other ≤ cycle → other ≤ found

-- None exactly where each kept cycle is above this one
abbrev pub IsNearest : ℕ → List State → Option ℕ → Type 0
IsNearest cycle kept None = (other : ℕ) → is_kept other kept ≡ true → cycle < other
IsNearest cycle kept (Some found) = IsGreatest cycle kept found

-- the greater of two cycles, of which each may be none
abbrev pub greater_of : Option ℕ → Option ℕ → Option ℕ
greater_of None other = other
greater_of (Some one) None = Some one
greater_of (Some one) (Some other) = Some (max one other)

-- how many pages are stored for a state: those that differ from the state that was kept before it, and all for the first
abbrev pub stored_for : State → List State → ℕ
stored_for s [] = 264
stored_for s (last ∷ older) = differing 264 last.sram s.sram

-- how many pages are stored for all of them
abbrev pub stored_of : List State → ℕ
stored_of [] = 0
stored_of (s ∷ older) = stored_for s older + stored_of older

-- each of them was to be kept when it was kept
abbrev pub WereDue : ℕ → ℕ → List State → Type 0
WereDue spacing origin [] = (0 < spacing)
WereDue spacing origin (s ∷ older) = (is_due spacing origin older s.cycle ≡ true) × WereDue spacing origin older

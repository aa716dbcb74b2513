-- The twelve slots. A job goes through the first slot of its lane, and the result through the second.
use Rattle.std.specs.Prelude.{◌≡◌, ℕ, suc, ◌+◌, ◌*◌, ◌%◌, ◌<◌, ◌≤◌, true, List, [], ◌∷◌, ◌⊎◌}
use mathlib.Core.Option.{Option, some}
use lib.ListN.{get_elem?}
use Rattle.turn_board.specs.Tickets.{total, times, SeatState, MasterState, BoardState, master_of, IsUnfinished}
use Rattle.turn_board.specs.declared.slot.Slot.{Slot}
use Rattle.turn_board.specs.declared.slot.Slot.TheVariants.{Empty, Job, Found}

-- the slots of the lane of a number
abbrev pub job_slot : ℕ → ℕ
job_slot n = 2 * (n % 6)

abbrev pub found_slot : ℕ → ℕ
found_slot n = 2 * (n % 6) + 1

-- the master has the slots, once it has looked, where it knows that all open numbers are finished
abbrev pub MasterHolds : MasterState → Type 0
MasterHolds m = (0 < m.polls) × (m.known ≡ m.opened)

-- the seat has the slots of the lane
abbrev pub HoldsLane : SeatState → ℕ → Type 0
HoldsLane s lane = (s.holding ≡ true) × ((n : ℕ) × IsUnfinished s n × (n % 6 ≡ lane))

abbrev pub IsOut : BoardState → ℕ → Type 0
IsOut b lane = MasterHolds (master_of b) ⊎ ((i : ℕ) × (s : SeatState) × (get_elem? b.seats i ≡ some s) × HoldsLane s lane)

-- the number is among the last six open ones
abbrev pub IsLast : BoardState → ℕ → Type 0
IsLast b n = (n < b.opened) × (b.opened ≤ n + 6)

abbrev pub finishes : BoardState → ℕ → ℕ
finishes b n = total (λ s. times n s.finished) b.seats

module _ {J R : Type 0} where
  abbrev pub IsJob : Slot J R → Type 0
  IsJob Empty = ⊥
  IsJob (Job j) = Unit {0}
  IsJob (Found r) = ⊥

  abbrev pub IsFound : Slot J R → Type 0
  IsFound Empty = ⊥
  IsFound (Job j) = ⊥
  IsFound (Found r) = Unit {0}

  -- the slots from the one numbered i on, with their values
  abbrev pub numbered : ℕ → List (Slot J R) → List (ℕ × Slot J R)
  numbered i [] = []
  numbered i (x ∷ xs) = (i, x) ∷ numbered (suc i) xs

module _ {J R : Type 0} (job_fits : J → Type 0) (found_fits : R → Type 0) where
  -- what the first slot of a lane may have
  abbrev pub FitsFirst : Slot J R → Type 0
  FitsFirst Empty = Unit {0}
  FitsFirst (Job j) = job_fits j
  FitsFirst (Found r) = ⊥

  -- what the second may have
  abbrev pub FitsSecond : Slot J R → Type 0
  FitsSecond Empty = Unit {0}
  FitsSecond (Job j) = ⊥
  FitsSecond (Found r) = found_fits r

  -- the slots of the lane are at home: where its number is not finished, with a job and no result, and where it is finished, with a result
  pub record Stocked (b : BoardState) (homes : List (Option (Slot J R))) (lane : ℕ) : Type 0 where
    pub first : Slot J R
    pub second : Slot J R
    pub first_home : get_elem? homes (2 * lane) ≡ some (some first)
    pub second_home : get_elem? homes (2 * lane + 1) ≡ some (some second)
    pub first_fits : FitsFirst first
    pub second_fits : FitsSecond second
    pub waiting : (n : ℕ) → IsLast b n → n % 6 ≡ lane → finishes b n ≡ 0 → IsJob first × (second ≡ Empty)
    pub finished : (n : ℕ) → IsLast b n → n % 6 ≡ lane → 0 < finishes b n → IsFound second

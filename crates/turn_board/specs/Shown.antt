-- What clauses see of a seat and of a master.
use Rattle.std.specs.Prelude.{◌≡◌, ◌≢◌, ℕ, ◌+◌, ◌*◌, ◌%◌, ◌<◌, true, false, List, [], ◌∷◌, Option, Some, None}
use Rattle.atomic_table.specs.Table.{rest, turned}
use Rattle.atomic_table.specs.Seated.{TableId}
use Rattle.turn_board.specs.Tickets.{SeatState, MasterState, IsUnfinished}
use Rattle.turn_board.specs.Slots.{job_slot, found_slot, numbered, FitsFirst, FitsSecond}
use Rattle.turn_board.specs.Rule.{fresh}
use Rattle.turn_board.specs.Plays.{Sat}
use Rattle.turn_board.specs.declared.slot.Slot.{Slot}
use Rattle.turn_board.specs.declared.slot.Slot.TheVariants.{Empty, Job, Found}

-- Which board the seat is at, what that board's values are made for, what the seat has done, and what the slots that it holds have: the job, and the result.
pub record SeatView (J R W : Type 0) : Type 0 where
  pub board : TableId
  pub made_for : W
  pub state : SeatState
  pub job : Option J
  pub found : Option R

pub record MasterView (W : Type 0) : Type 0 where
  pub board : TableId
  pub made_for : W
  pub state : MasterState

-- the master of a new board has looked once
abbrev pub new_master : {W : Type 0} → TableId → W → MasterView W
new_master z w = record { board = z; made_for = w; state = record { opened = 0; closed = false; known = 0; polls = 1 } }

module _ {J R : Type 0} where
  abbrev pub job_of : Slot J R → Option J
  job_of Empty = None
  job_of (Job j) = Some j
  job_of (Found r) = None

  abbrev pub found_of : Slot J R → Option R
  found_of Empty = None
  found_of (Job j) = None
  found_of (Found r) = Some r

  abbrev pub job_in : List (ℕ × Slot J R) → Option J
  job_in [] = None
  job_in (x ∷ xs) = job_of x.1

  abbrev pub found_in : List (ℕ × Slot J R) → Option R
  found_in [] = None
  found_in (x ∷ []) = None
  found_in (x ∷ y ∷ more) = found_of y.1

  -- the twelve slots with nothing in them
  abbrev pub vacant : List (Slot J R)
  vacant = Empty ∷ Empty ∷ Empty ∷ Empty ∷ Empty ∷ Empty ∷ Empty ∷ Empty ∷ Empty ∷ Empty ∷ Empty ∷ Empty ∷ []

  -- the first two slots of the list, which are a lane's, have other values and go behind the others
  abbrev pub refilled : ℕ → Slot J R → List (ℕ × Slot J R) → List (ℕ × Slot J R)
  refilled lane x in_hand = turned ((2 * lane + 1, Empty) ∷ rest (turned ((2 * lane, x) ∷ rest in_hand)))

module _ {J R W : Type 0} where
  abbrev pub seat_shown : TableId → Sat J R W → SeatView J R W
  seat_shown z m = record { board = z; made_for = m.0.made_for; state = m.0.worker; job = job_in m.1; found = found_in m.1 }

  abbrev pub master_shown : TableId → Sat J R W → MasterView W
  master_shown z m = record { board = z; made_for = m.0.made_for; state = m.0.master }

  -- a seat that has done nothing
  abbrev pub new_seat : TableId → W → SeatView J R W
  new_seat z w = record { board = z; made_for = w; state = fresh; job = None; found = None }

  -- the slots that a seat holds: those of its number's lane, or none
  pub record IsSeat (job_fits : W → ℕ → J → Type 0) (found_fits : W → ℕ → R → Type 0) (m : Sat J R W) : Type 0 where
    pub follows : m.0.leads ≡ false
    pub due : m.0.worker.holding ≡ true → (number : ℕ) × IsUnfinished m.0.worker number
    pub bare : m.0.worker.holding ≡ false → m.1 ≡ []
    pub carries : m.0.worker.holding ≡ true → (first second : Slot J R)
        × ((number : ℕ) → IsUnfinished m.0.worker number
        → (m.1 ≡ (job_slot number, first) ∷ (found_slot number, second) ∷ [])
        × FitsFirst (job_fits m.0.made_for (number % 6)) (found_fits m.0.made_for (number % 6)) first
        × FitsSecond (job_fits m.0.made_for (number % 6)) (found_fits m.0.made_for (number % 6)) second)

  -- the master holds all slots where it knows that all open numbers are finished, and else none
  pub record IsMaster (m : Sat J R W) : Type 0 where
    pub leads : m.0.leads ≡ true
    pub polled : 0 < m.0.master.polls
    pub holds : m.0.master.known ≡ m.0.master.opened → m.1 ≡ numbered 0 vacant
    pub bare : m.0.master.known ≢ m.0.master.opened → m.1 ≡ []

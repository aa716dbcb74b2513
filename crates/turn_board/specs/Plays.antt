-- What each step on a word tells: of the step, the seat before, the number found and the seat after.
use Rattle.std.specs.Prelude.{◌≡◌, ◌≢◌, ℕ, ◌+◌, ◌%◌, ◌^◌, ◌<◌, ◌≤◌, Bool, false, true, not, ◌&&◌, List, [], ◌∷◌}
use mathlib.Core.Option.{some}
use lib.ListN.{get_elem?}
use Rattle.atomic_table.specs.Table.{Me, Step}
use Rattle.atomic_table.specs.Seated.{TableId}
use Rattle.turn_board.specs.Tickets.{SeatState, MasterState, BoardState, master_of, IsUnfinished, Good, Event, drew, saw, did, IsLegal, after}
use Rattle.turn_board.specs.Tickets.Event.{Draw, SeeOpen, Finish, Open, Close, SeeDone}
use Rattle.turn_board.specs.Slots.{job_slot, found_slot, numbered, IsFound, FitsFirst, FitsSecond}
use Rattle.turn_board.specs.Rule.{open_word, seat_view, master_view}
use Rattle.turn_board.specs.declared.slot.Slot.{Slot}
use Rattle.turn_board.specs.declared.slot.Slot.TheVariants.{Empty, Job, Found}
use Rattle.turn_board.specs.declared.view.View.{View}

-- The seat stands in a good board at which the event is legal, and the event changes its state from s to t.
abbrev pub Happens : (ℕ → Event) → SeatState → SeatState → (BoardState → Type 0) → Type 0
Happens event s t tells = (b : BoardState) × (i : ℕ) × Good b × IsLegal b (event i) × (get_elem? b.seats i ≡ some s) × (get_elem? (after b (event i)).seats i ≡ some t) × tells b

-- the same for the master
abbrev pub Leads : Event → MasterState → MasterState → (BoardState → Type 0) → Type 0
Leads event m n tells = (b : BoardState) × Good b × IsLegal b event × (master_of b ≡ m) × (master_of (after b event) ≡ n) × tells b

-- The seat drew this number.
abbrev pub IsDraw : SeatState → ℕ → SeatState → Type 0
IsDraw s number t = Happens Draw s t (λ b. number ≡ b.ticket)

-- The seat looked, and this was the word of the open numbers.
abbrev pub IsLook : SeatState → ℕ → SeatState → Type 0
IsLook s word t = Happens SeeOpen s t (λ b. word ≡ open_word b.opened b.closed)

-- The seat finished this number.
abbrev pub IsFinish : SeatState → ℕ → SeatState → Type 0
IsFinish s number t = Happens (λ i. Finish i number) s t (λ _. Unit {0})

abbrev pub IsOpen : MasterState → MasterState → Type 0
IsOpen m n = Leads Open m n (λ _. Unit {0})

abbrev pub IsClose : MasterState → MasterState → Type 0
IsClose m n = Leads Close m n (λ _. Unit {0})

-- The master looked, and so many numbers were finished.
abbrev pub IsPoll : MasterState → ℕ → MasterState → Type 0
IsPoll m word n = Leads SeeDone m n (λ b. word ≡ b.done)

-- the master, once it has made one more seat
abbrev pub one_more : {W : Type 0} → View W → View W
one_more v = master_view v.made_for v.master (v.seats + 1)

-- a board's table has three words and two slots for each of six lanes
abbrev pub IsSized : TableId → Type 0
IsSized z = (z.words ≡ 3) × (z.slots ≡ 12)

abbrev pub Sat : Type 0 → Type 0 → Type 0 → Type 0
Sat J R W = Me (Slot J R) (View W)

module _ {J R : Type 0} where
  -- the twelve slots of six jobs
  abbrev pub laden : (j0 j1 j2 j3 j4 j5 : J) → List (Slot J R)
  laden j0 j1 j2 j3 j4 j5 = Job j0 ∷ Empty ∷ Job j1 ∷ Empty ∷ Job j2 ∷ Empty ∷ Job j3 ∷ Empty ∷ Job j4 ∷ Empty ∷ Job j5 ∷ Empty ∷ []

  -- a seat that begins to hold its lane finds a job in the first slot and the second empty
  abbrev pub Gains : (ℕ → J → Type 0) → SeatState → Bool → List (ℕ × Slot J R) → List (ℕ × Slot J R) → Type 0
  Gains fits s false in_hand in_hand' = in_hand' ≡ in_hand
  Gains fits s true in_hand in_hand' = (number : ℕ) → IsUnfinished s number → (job : J) × (in_hand' ≡ (job_slot number, Job job) ∷ (found_slot number, Empty) ∷ in_hand) × fits (number % 6) job

-- the master has taken all twelve slots, the two of each lane in turn, and where so many numbers are finished that there is one, it finds a result in each second one
pub record Collects {J R : Type 0} (job_fits : ℕ → J → Type 0) (found_fits : ℕ → R → Type 0) (done : ℕ) (in_hand : List (ℕ × Slot J R)) : Type 0 where
  pub first0 : Slot J R
  pub second0 : Slot J R
  pub first1 : Slot J R
  pub second1 : Slot J R
  pub first2 : Slot J R
  pub second2 : Slot J R
  pub first3 : Slot J R
  pub second3 : Slot J R
  pub first4 : Slot J R
  pub second4 : Slot J R
  pub first5 : Slot J R
  pub second5 : Slot J R
  pub are : in_hand ≡ numbered 0 (first0 ∷ second0 ∷ first1 ∷ second1 ∷ first2 ∷ second2 ∷ first3 ∷ second3 ∷ first4 ∷ second4 ∷ first5 ∷ second5 ∷ [])
  pub fit :
      FitsSecond (job_fits 0) (found_fits 0) second0 × FitsSecond (job_fits 1) (found_fits 1) second1
      × FitsSecond (job_fits 2) (found_fits 2) second2 × FitsSecond (job_fits 3) (found_fits 3) second3
      × FitsSecond (job_fits 4) (found_fits 4) second4 × FitsSecond (job_fits 5) (found_fits 5) second5
  pub found : 0 < done → IsFound second0 × IsFound second1 × IsFound second2 × IsFound second3 × IsFound second4 × IsFound second5

module _ {J R W : Type 0} where
  abbrev pub drawn : Step (Slot J R) → Sat J R W → ℕ → Sat J R W → Type 0
  drawn st m r n = (n ≡ (seat_view m.0.made_for (drew r m.0.worker), m.1)) × IsDraw m.0.worker r (drew r m.0.worker)

  abbrev pub opened : Step (Slot J R) → Sat J R W → ℕ → Sat J R W → Type 0
  opened st m r n = let after = record m.0.master { opened = m.0.master.opened + 6 } in (n ≡ (master_view m.0.made_for after m.0.seats, [])) × IsOpen m.0.master after

  -- the master holds all slots, with a job in the first of each lane
  abbrev pub BringsJobs : (W → ℕ → J → Type 0) → Sat J R W → Type 0
  BringsJobs fits m = (j0 j1 j2 j3 j4 j5 : J) × (m.1 ≡ numbered 0 (laden j0 j1 j2 j3 j4 j5))
      × fits m.0.made_for 0 j0 × fits m.0.made_for 1 j1 × fits m.0.made_for 2 j2
      × fits m.0.made_for 3 j3 × fits m.0.made_for 4 j4 × fits m.0.made_for 5 j5

  -- the seat holds the slots of its number's lane, with a result in the second
  abbrev pub Brings : (W → ℕ → J → Type 0) → (W → ℕ → R → Type 0) → Sat J R W → Type 0
  Brings job_fits found_fits m = let w = m.0.made_for in
      (m.0.worker.holding ≡ true) × (first : Slot J R) × (result : R)
      × ((number : ℕ) → IsUnfinished m.0.worker number
      → (m.1 ≡ (job_slot number, first) ∷ (found_slot number, Found result) ∷ [])
      × FitsFirst (job_fits w (number % 6)) (found_fits w (number % 6)) first × found_fits w (number % 6) result)

  abbrev pub closed : Step (Slot J R) → Sat J R W → ℕ → Sat J R W → Type 0
  closed st m r n = let after = record m.0.master { closed = true } in (n ≡ (master_view m.0.made_for after m.0.seats, m.1)) × IsClose m.0.master after

  abbrev pub finished : Step (Slot J R) → Sat J R W → ℕ → Sat J R W → Type 0
  finished st m r n = (number : ℕ) → IsUnfinished m.0.worker number → (n ≡ (seat_view m.0.made_for (did number m.0.worker), [])) × IsFinish m.0.worker number (did number m.0.worker)

  abbrev pub looked : (W → ℕ → J → Type 0) → Step (Slot J R) → Sat J R W → ℕ → Sat J R W → Type 0
  looked fits st m r n = (opened : ℕ) × (closed : Bool) × (r ≡ open_word opened closed) × (opened ≤ 2 ^ 62) × (n.0 ≡ seat_view m.0.made_for (saw opened closed m.0.worker)) × IsLook m.0.worker r (saw opened closed m.0.worker)
      × Gains (fits m.0.made_for) m.0.worker (not m.0.worker.holding && n.0.worker.holding) m.1 n.1
      × (m.0.worker.seen ≤ opened)

  -- the master takes all slots where all open numbers are finished, and then finds a result for each
  abbrev pub polled : (W → ℕ → J → Type 0) → (W → ℕ → R → Type 0) → Step (Slot J R) → Sat J R W → ℕ → Sat J R W → Type 0
  polled job_fits found_fits st m r n = let after = record m.0.master { known = r; polls = m.0.master.polls + 1 } in
      (r ≤ m.0.master.opened) × (n.0 ≡ master_view m.0.made_for after m.0.seats) × IsPoll m.0.master r after
      × (r ≢ m.0.master.opened → n.1 ≡ m.1)
      × (r ≡ m.0.master.opened → Collects (job_fits m.0.made_for) (found_fits m.0.made_for) r n.1)
      × (m.0.master.known ≤ r)

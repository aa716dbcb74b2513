-- The seven kinds of step. Each keeps the rule, and is the event of its name.
use Rattle.std.specs.Prelude.{◌≡◌, ℕ, suc, ◌+◌, ◌%◌, ◌^◌, ◌<◌, ◌≤◌, true, false, [], ◌∷◌, length, bit_or, slice_index}
use mathlib.Core.Option.{some, none}
use lib.ListN.{get_elem?}
use Rattle.atomic_table.specs.Table.{State, Act, Valid, step, stepped, carried_after, Splits, opening}
use Rattle.turn_board.specs.Tickets.{IsUnfinished, IsFree, Event, IsLegal, after}
use Rattle.turn_board.specs.Tickets.Event.{Draw, SeeOpen, Finish, Open, Close, SeeDone}
use Rattle.turn_board.specs.Slots.{MasterHolds}
use Rattle.turn_board.specs.Rule.{Ruled, first_view, seat_view, fresh}
use Rattle.turn_board.specs.Shown.{vacant}
use Rattle.turn_board.specs.Plays.{Sat, Brings, BringsJobs, drawn, looked, finished, opened, closed, polled, one_more}
use Rattle.turn_board.specs.declared.slot.Slot.{Slot}
use Rattle.turn_board.specs.declared.view.View.{View}

-- the event is that of the seat whose view this is, and that of the master, whose view is the first
abbrev pub OfSeat : (ℕ → Event) → ℕ → Event → Type 0
OfSeat kind view event = (seat : ℕ) × (view ≡ suc seat) × (event ≡ kind seat)

abbrev pub OfMaster : Event → ℕ → Event → Type 0
OfMaster kind view event = (view ≡ 0) × (event ≡ kind)

module _ {J R W : Type 0} (job_fits : W → ℕ → J → Type 0) (found_fits : W → ℕ → R → Type 0) (key : W) where
  -- Whatever a table that meets the rule is when the word i becomes f of what it was: there is an event of this kind that is legal on its board, and the table that the step leaves meets the rule with the board after that event. `then` says what the step tells.
  abbrev pub IsEvent : ℕ → Sat J R W → (ℕ → Event → Type 0) → ℕ → (ℕ → ℕ) → (ℕ → Sat J R W → Type 0) → Type 0
  IsEvent id m kind i f then =
      (s : State (Slot J R) (View W)) (r : Ruled job_fits found_fits key s)
      → length s.homes ≡ 12 → get_elem? s.views id ≡ some m.0 → slice_index s.words i < 2 ^ 64
      → (event : Event) × kind id event × IsLegal r.board event
      × (w : View W) × (a : Act (Slot J R)) × Valid s.homes m.1 a
      × (next : Ruled job_fits found_fits key (stepped s i (f (slice_index s.words i)) id m.1 w a))
      × (next.board ≡ after r.board event)
      × then (slice_index s.words i) (w, carried_after m.1 a)

  pub record StepsAreEvents : Type 0 where
    -- a new table, with nothing in its slots
    pub start : Ruled job_fits found_fits key (opening (0 ∷ 0 ∷ 0 ∷ []) vacant (first_view key))
    -- a new seat
    pub split : (id : ℕ) (v : View W) → v.leads ≡ true → v.seats < 9 → Splits (Ruled job_fits found_fits key) id v (one_more v) (seat_view v.made_for fresh)
    -- fetch-and-add 1 on word 0, by a seat that has no unfinished number
    pub draw : (id : ℕ) (m : Sat J R W) → m.0.leads ≡ false → IsFree m.0.worker
        → IsEvent id m (OfSeat Draw) 0 (λ n. (n + 1) % 2 ^ 64) (drawn (step 12 0 1 0 none) m)
    -- load of word 1, by a seat
    pub see_open : (id : ℕ) (m : Sat J R W) → m.0.leads ≡ false
        → IsEvent id m (OfSeat SeeOpen) 1 (λ n. n) (looked job_fits (step 12 1 0 0 none) m)
    -- fetch-and-add 1 on word 2, by a seat that holds its lane, with a result: it finishes its unfinished number
    pub finish : (id : ℕ) (m : Sat J R W) → m.0.leads ≡ false → Brings job_fits found_fits m
        → IsEvent id m (λ view event. (number : ℕ) × IsUnfinished m.0.worker number × OfSeat (λ seat. Finish seat number) view event) 2 (λ n. (n + 1) % 2 ^ 64) (finished (step 12 2 1 0 none) m)
    -- fetch-and-add 6 on word 1, by the master, with six jobs
    pub open_six : (id : ℕ) (m : Sat J R W) → m.0.leads ≡ true → m.0.master.known ≡ m.0.master.opened → m.0.master.closed ≡ false → m.0.master.opened + 6 ≤ 2 ^ 62 → BringsJobs job_fits m
        → IsEvent id m (OfMaster Open) 1 (λ n. (n + 6) % 2 ^ 64) (opened (step 12 1 6 0 none) m)
    -- fetch-and-or of bit 63 on word 1, by the master
    pub close : (id : ℕ) (m : Sat J R W) → m.0.leads ≡ true
        → IsEvent id m (OfMaster Close) 1 (λ n. bit_or n (2 ^ 63)) (closed (step 12 1 (2 ^ 63) 0 none) m)
    -- load of word 2, by a master that does not hold the slots
    pub see_done : (id : ℕ) (m : Sat J R W) → m.0.leads ≡ true → ¬ MasterHolds m.0.master → m.1 ≡ []
        → IsEvent id m (OfMaster SeeDone) 2 (λ n. n) (polled job_fits found_fits (step 12 2 0 0 none) m)

-- What the answers of the calls mean.
use Rattle.std.specs.Prelude.{◌≡◌, ℕ, ◌+◌, ◌%◌, ◌<◌, ◌≤◌, Bool, true, false, Some, None}
use Rattle.atomic_table.specs.Seated.{TableId}
use Rattle.turn_board.specs.Tickets.{IsFree, SeatState, MasterState, saw}
use Rattle.turn_board.specs.Rule.{open_word}
use Rattle.turn_board.specs.Plays.{IsLook, IsPoll}
use Rattle.turn_board.specs.Shown.{SeatView, MasterView}
use Rattle.turn_board.specs.declared.answers.See.{See}
use Rattle.turn_board.specs.declared.answers.See.TheVariants.{Open, NotYet, Closed}
use Rattle.turn_board.specs.declared.answers.Six.{Six}
use Rattle.turn_board.specs.declared.answers.Gather.{Gather}
use Rattle.turn_board.specs.declared.answers.Gather.TheVariants.{All, Part}

-- the slots that the seat holds are as they were
abbrev pub SlotsStay : {J R W : Type 0} → SeatView J R W → SeatView J R W → Type 0
SlotsStay s t = (t.job ≡ s.job) × (t.found ≡ s.found)

-- a seat that was not holding has taken a job, and no result yet
abbrev pub Takes : {J R W : Type 0} → (J → Type 0) → Bool → SeatView J R W → SeatView J R W → Type 0
Takes fits true s t = SlotsStay s t
Takes {J} fits false s t = (job : J) × (t.job ≡ Some job) × (t.found ≡ None) × fits job

-- what an answer tells of a look for this number
abbrev pub Answers : {J R W : Type 0} → (W → ℕ → J → Type 0) → ℕ → SeatView J R W → SeatView J R W → See → Type 0
Answers fits number s t Open = (number < t.state.seen) × (t.state.holding ≡ true) × Takes (fits s.made_for (number % 6)) s.state.holding s t
Answers fits number s t (NotYet n) = (n ≡ t.state.seen) × (n ≤ number) × (t.state.shut ≡ false) × (t.state.holding ≡ s.state.holding) × SlotsStay s t
Answers fits number s t Closed = (t.state.shut ≡ true) × (t.state.seen ≤ number) × (t.state.holding ≡ s.state.holding) × SlotsStay s t

-- the state after one look: it is what the load of the look told, and that is no fewer open numbers than before
abbrev pub Looks : SeatState → SeatState → Type 0
Looks s t = (t ≡ saw t.seen t.shut s) × IsLook s (open_word t.seen t.shut) t × (s.seen ≤ t.seen)

-- what holds of each lane, by its number, and of its value
abbrev pub EachLane : {T : Type 0} → (ℕ → T → Type 0) → Six T → Type 0
EachLane P x = P 0 x.l0 × P 1 x.l1 × P 2 x.l2 × P 3 x.l3 × P 4 x.l4 × P 5 x.l5

-- what an answer tells of a look at the finished numbers
abbrev pub Gathered : {R W : Type 0} → (W → ℕ → R → Type 0) → MasterView W → MasterView W → Gather R → Type 0
Gathered fits m n (All results) = (n.state.known ≡ n.state.opened) × EachLane (fits m.made_for) results
Gathered fits m n (Part done) = (done ≡ n.state.known) × (done < n.state.opened)

-- the master's state after one look, which told no fewer finished numbers than before
abbrev pub Polls : MasterState → MasterState → Type 0
Polls m n = (n ≡ record m { known = n.known; polls = m.polls + 1 }) × IsPoll m n.known n × (m.known ≤ n.known)

-- the state after one look or more, of which the last told what it is
abbrev pub LooksAgain : SeatState → SeatState → Type 0
LooksAgain s t = (before : SeatState) × (before.drawn ≡ s.drawn) × (before.finished ≡ s.finished)
    × (s.loads ≤ before.loads) × (s.seen ≤ before.seen) × Looks before t

abbrev pub PollsAgain : MasterState → MasterState → Type 0
PollsAgain m n = (before : MasterState) × (before.opened ≡ m.opened) × (before.closed ≡ m.closed)
    × (m.polls ≤ before.polls) × (m.known ≤ before.known) × Polls before n

-- the ticket is open, or the board is closed
abbrev pub IsSettled : See → Type 0
IsSettled Open = Unit {0}
IsSettled (NotYet n) = ⊥
IsSettled Closed = Unit {0}

-- the results are all there
abbrev pub IsWhole : {R : Type 0} → Gather R → Type 0
IsWhole (All results) = Unit {0}
IsWhole (Part done) = ⊥

-- the seat is at the board, whose values are made for w, and may draw
abbrev pub IsReady : {J R W : Type 0} → TableId → W → SeatView J R W → Type 0
IsReady z w s = (s.board ≡ z) × (s.made_for ≡ w) × IsFree s.state

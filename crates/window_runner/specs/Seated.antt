-- What the coordinator has at the board between two windows. The project's own.
use Rattle.std.specs.Prelude.{◌≡◌, ℕ, false, Option, Some, None}
use Rattle.atomic_table.specs.Seated.{TableId}
use Rattle.turn_board.specs.Tickets.{SeatState, IsFree, IsUnfinished}
use Rattle.turn_board.specs.Shown.{SeatView, MasterView}
use Rattle.window_runner.specs.declared.coordinator.Desk.{Desk}
use Rattle.window_runner.specs.declared.coordinator.Lead.{Lead}

-- the seat has no number under way but that of the ticket that it keeps, if there is one
abbrev pub Keeps : Option ℕ → SeatState → Type 0
Keeps None s = IsFree s
Keeps (Some n) s = IsUnfinished s n

-- a seat at the board that keeps this ticket and holds no lane
abbrev pub IsSeatAt : {J R W : Type 0} → TableId → Option ℕ → SeatView J R W → Type 0
IsSeatAt z kept s = (s.board ≡ z) × Keeps kept s.state × (s.state.holding ≡ false)

-- the master of the board, which has gathered all of the numbers that it opened, so many, and has not closed it
abbrev pub IsMasterAt : {W : Type 0} → TableId → ℕ → MasterView W → Type 0
IsMasterAt z opened m = (m.board ≡ z) × (m.state.opened ≡ opened) × (m.state.known ≡ opened) × (m.state.closed ≡ false)

-- the master and the seat are at the board, for a world that is as it should be
abbrev pub IsReady : {J R W : Type 0} → TableId → (W → Type 0) → ℕ → Option ℕ → MasterView W → SeatView J R W → Type 0
IsReady z fits opened kept m s = IsMasterAt z opened m × IsSeatAt z kept s × fits m.made_for × fits s.made_for

-- the coordinator is at this desk, whose board is for its world
abbrev pub IsLed : {X G H : Type 0} → Desk X G H → Lead X → Type 0
IsLed d l = IsReady d.board.now (λ w. w.now ≡ d.world.now) l.opened l.kept l.master l.seat

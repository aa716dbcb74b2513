-- What holds of every good state of the board.
use Rattle.std.specs.Prelude.{◌≡◌, ◌≢◌, ℕ, ◌+◌, ◌%◌, ◌<◌, ◌≤◌, true, length}
use mathlib.Core.Option.{some}
use lib.ListN.{get_elem?}
use Rattle.turn_board.specs.Tickets.{times, SeatState, BoardState, IsUnfinished, Good, Event, IsLegal, after}

-- each legal event keeps a good state good
abbrev pub EventsKeepGood : Type 0
EventsKeepGood = (b : BoardState) (e : Event) → Good b → IsLegal b e → Good (after b e)

-- where as many numbers are finished as are open, every open number stands once in the finished list of the one seat that drew it
abbrev pub AllDone : Type 0
AllDone = (b : BoardState) → Good b → b.done ≡ b.opened → (n : ℕ) → n < b.opened
    → (i : ℕ) × (s : SeatState) × (get_elem? b.seats i ≡ some s) × (times n s.finished ≡ 1) × (times n s.drawn ≡ 1)
    × ((j : ℕ) (t : SeatState) → get_elem? b.seats j ≡ some t → j ≢ i → times n t.drawn ≡ 0)

-- no more are finished than are open, and no more numbers are drawn than that and one for each seat
abbrev pub TicketsBounded : Type 0
TicketsBounded = (b : BoardState) → Good b → (b.done ≤ b.opened) × (b.ticket ≤ b.opened + length b.seats)

-- two seats that are holding have numbers of different lanes
abbrev pub LanesDiffer : Type 0
LanesDiffer = (b : BoardState) → Good b → (i j : ℕ) (s t : SeatState) → i ≢ j → get_elem? b.seats i ≡ some s → get_elem? b.seats j ≡ some t
    → s.holding ≡ true → t.holding ≡ true → (m n : ℕ) → IsUnfinished s m → IsUnfinished t n → m % 6 ≢ n % 6

-- no seat is holding where the master knows that all open numbers are finished
abbrev pub NoneHolding : Type 0
NoneHolding = (b : BoardState) → Good b → b.known ≡ b.opened → (i : ℕ) (s : SeatState) → get_elem? b.seats i ≡ some s → s.holding ≢ true

-- The rule of the table. Word 0 is the next number to draw, word 1 how many numbers are open, with bit 63 where the board is closed, and word 2 how many are finished. The first view is the master's, and the others are the seats'.
use Rattle.std.specs.Prelude.{◌≡◌, ℕ, ◌+◌, ◌<◌, ◌≤◌, Bool, true, false, cond, [], ◌∷◌, map, length}
use Rattle.atomic_table.specs.Table.{State}
use Rattle.turn_board.specs.Tickets.{SeatState, MasterState, BoardState, master_of, Good}
use Rattle.turn_board.specs.Slots.{IsOut, Stocked}
use Rattle.turn_board.specs.declared.slot.Slot.{Slot}
use Rattle.turn_board.specs.declared.view.View.{View}

-- a seat that has done nothing, and so a master
abbrev pub fresh : SeatState
fresh = record { drawn = []; finished = []; seen = 0; loads = 0; holding = false; shut = false }

abbrev pub idle : MasterState
idle = record { opened = 0; closed = false; known = 0; polls = 0 }

-- the word of the open numbers: bit 63 is the close bit
abbrev pub open_word : ℕ → Bool → ℕ
open_word opened closed = opened + cond closed 9223372036854775808 0

module _ {W : Type 0} where
  abbrev pub seat_view : W → SeatState → View W
  seat_view w s = record { marker = record {}; made_for = w; leads = false; worker = s; master = idle; seats = 0 }

  abbrev pub master_view : W → MasterState → ℕ → View W
  master_view w m seats = record { marker = record {}; made_for = w; leads = true; worker = fresh; master = m; seats = seats }

  abbrev pub first_view : W → View W
  first_view w = master_view w idle 0

-- The words and the views are those of a good board. The slots of a lane are at home unless they are out with the master or a seat, and then they have what they should, made for the key and for the lane.
pub record Ruled {J R W : Type 0} (job_fits : W → ℕ → J → Type 0) (found_fits : W → ℕ → R → Type 0) (key : W) (s : State (Slot J R) (View W)) : Type 0 where
  pub board : BoardState
  pub good : Good board
  pub few : length board.seats ≤ 9
  pub words : s.words ≡ board.ticket ∷ open_word board.opened board.closed ∷ board.done ∷ []
  pub views : s.views ≡ master_view key (master_of board) (length board.seats) ∷ map (seat_view key) board.seats
  pub lanes : (lane : ℕ) → lane < 6 → ¬ IsOut board lane → Stocked (job_fits key lane) (found_fits key lane) board s.homes lane

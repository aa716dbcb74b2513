use Rattle.std.proofs.Common.{◌≡◌, ◌*◌, ℕ, false}
use Rattle.turn_board.specs.Tickets.{IsUnfinished}
use Rattle.run_tests.specs.declared.numbers.TheConstants.{LIMIT}
use Rattle.run_tests.proofs.turn_board_tests.alone.Given as goal

abbrev pub invariant-loop-window : goal.invariant-loop-window
invariant-loop-window l = (l.master.board ≡ l.board) × (l.master.made_for ≡ LIMIT) × (l.master.state.opened ≡ 6 * l.window) × (l.master.state.known ≡ 6 * l.window) × (l.master.state.closed ≡ false)
    × (l.seat.board ≡ l.board) × (l.seat.made_for ≡ LIMIT) × ((n : ℕ) → ¬ IsUnfinished l.seat.state n)

abbrev pub invariant-loop-lane : goal.invariant-loop-lane
invariant-loop-lane l = (l.seat.board ≡ l.board) × (l.seat.made_for ≡ LIMIT) × ((n : ℕ) → ¬ IsUnfinished l.seat.state n)

use Rattle.std.proofs.Common.{◌≡◌, ℕ}
use Rattle.turn_board.specs.Tickets.{IsUnfinished}
use Rattle.run_tests.specs.declared.numbers.TheConstants.{LIMIT}
use Rattle.run_tests.proofs.turn_board_tests.serve.Given as goal

abbrev pub invariant-loop : goal.invariant-loop
invariant-loop g l = (goal.iterator-loop g).can_next l.iterator' × (goal.iterator-loop g).is_finite l.iterator' × (l.seat.board ≡ l.board) × (l.seat.made_for ≡ LIMIT) × ((n : ℕ) → ¬ IsUnfinished l.seat.state n)

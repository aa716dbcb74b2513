use Rattle.turn_board.proofs.Awaits.{Unmoved}
use Rattle.turn_board.proofs.calls.Board.await_open.Given as goal

abbrev pub invariant-loop : goal.invariant-loop
invariant-loop g l = (goal.iterator-loop g).can_next l.iterator' × (goal.iterator-loop g).is_finite l.iterator' × Unmoved l.initial.seat l.seat

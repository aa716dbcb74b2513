use Rattle.turn_board.proofs.Awaits.{Waiting}
use Rattle.turn_board.proofs.calls.Board.await_all.Given as goal

abbrev pub invariant-loop : goal.invariant-loop
invariant-loop g l = (goal.iterator-loop g).can_next l.iterator' × (goal.iterator-loop g).is_finite l.iterator' × Waiting l.initial.master l.master

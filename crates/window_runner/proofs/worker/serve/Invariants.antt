use Rattle.window_runner.proofs.Shared.{IsUnfinished, ℕ, ◌≡◌}
use Rattle.window_runner.proofs.worker.serve.Given as goal

abbrev pub invariant-loop : goal.invariant-loop
invariant-loop g l = (goal.iterator-loop g).can_next l.iterator' × (goal.iterator-loop g).is_finite l.iterator'
    × (l.seat.board ≡ l.board) × (l.seat.made_for.now ≡ l.world) × ((n : ℕ) → ¬ IsUnfinished l.seat.state n)

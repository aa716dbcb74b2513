use Rattle.std.proofs.Common.{◌≡◌}
use Rattle.window_runner.specs.Seated.{IsSeatAt}
use Rattle.window_runner.proofs.coordinator.help.Given as goal

abbrev pub invariant-loop : goal.invariant-loop
invariant-loop g l = IsSeatAt l.board l.kept l.seat × (l.seat.made_for ≡ l.initial.seat.made_for)

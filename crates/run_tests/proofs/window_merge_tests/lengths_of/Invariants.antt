use Rattle.std.proofs.Common.{◌≡◌}
use Rattle.rp_machine.specs.Cycle.{begun}
use Rattle.run_tests.proofs.window_merge_tests.lengths_of.Given as goal

abbrev pub invariant-loop : goal.invariant-loop
invariant-loop g l = l.crew.begun ≡ begun l.machine

use Rattle.std.proofs.Common.{ap}
use Rattle.rp_machine.specs.State.{State, first_state}
use Rattle.rp_machine.specs.Boot.{start}
use Rattle.run_tests.proofs.reverse_debug_tests.session_of.Goals as goal

pub open-requires-clause-start : goal.open-requires-clause-start
unfolding start first_state
open-requires-clause-start g c = ap (λ (x : State). x.cycle) c.in_ok-machine.ensures

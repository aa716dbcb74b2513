use Rattle.std.proofs.Common.{ap, ◌∙◌, arith}
use Rattle.rp_machine.specs.State.{State}
use Rattle.pico_top.proofs.Walking.{start_cycle}
use Rattle.pico_tests.proofs.worker_tests.watched.Goals as goal

pub run_windows-ran-requires-clause-number : goal.run_windows-ran-requires-clause-number
run_windows-ran-requires-clause-number g c κs within =
    let at = ap (λ (m : State). m.cycle) c.in_ok-machine.ensures ∙ start_cycle _ _ _ in
    omega (arith, at)

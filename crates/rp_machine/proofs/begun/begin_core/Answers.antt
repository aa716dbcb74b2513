use Rattle.rp_machine.proofs.Shared.{State, answer_of, answered, runs_answered, subst, ◌≡◌}
use Rattle.m0_core.specs.Fetch.{asks}
use Rattle.rp_machine.proofs.begun.begin_core.Goals as goal

pub returns : goal.returns
returns c =
    let f = answer_of c.args.number c.args.machine.now in
    let told = runs_answered _ f _ (λ ask x k' h. h) _ _ _ c.begin_told.ensures in
    let family : State → Type 0 = λ s. c.begin_told.new.begun ≡ answered f (asks c.args.core.now s.cycle) in
    subst family c.machine.view_is told

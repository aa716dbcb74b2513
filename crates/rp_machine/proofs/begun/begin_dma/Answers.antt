use Rattle.rp_machine.proofs.Shared.{State, answer_of, answered, runs_answered, subst, ◌≡◌}
use Rattle.dma_engine.specs.Asks.{asks}
use Rattle.rp_machine.proofs.begun.begin_dma.Goals as goal

pub returns : goal.returns
returns c =
    let f = answer_of 2 c.args.machine.now in
    let told = runs_answered _ f _ (λ ask x k' h. h) _ _ _ c.begin_into.ensures in
    let family : State → Type 0 = λ s. c.begin_into.new.begun ≡ answered f (asks s.dma.block) in
    subst family c.machine.view_is told

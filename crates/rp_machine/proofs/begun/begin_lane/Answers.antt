use Rattle.rp_machine.proofs.Shared.{State, answer_of, answered, runs_answered, subst, ◌≡◌}
use Rattle.rp_machine.proofs.begun.begin_lane.Goals as goal

pub returns : goal.returns
returns g c =
    let f = answer_of c.args.number c.args.machine.now in
    let told = runs_answered _ f _ (λ ask x k' h. h) _ _ _ c.begin.ensures in
    let family : State → Type 0 = λ s. c.begin.result ≡ answered f (g.S.Lane.asks c.args.env.now c.args.lane.now s.cycle) in
    subst family c.machine.view_is told

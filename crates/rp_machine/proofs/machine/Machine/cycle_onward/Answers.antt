use Rattle.rp_machine.proofs.Shared.{State, ap, goes_inward, inward_cycle, refl, subst, true, ◌∙◌, ◌≡◌}
use Rattle.rp_machine.proofs.Inward.{wants_nothing_inward}
use Rattle.rp_machine.proofs.machine.Machine.cycle_onward.Goals as goal

pub returns-then-short_onward-clause-inward : goal.returns-then-short_onward-clause-inward
returns-then-short_onward-clause-inward c = λ done. wants_nothing_inward c.args.self.now (c.if-short_onward.ensures.nothing refl)

pub returns-clause-inward : goal.returns-clause-inward
returns-clause-inward c =
    λ done. subst (λ (s : State). goes_inward s ≡ true) c.if-short_onward.ensures.state (c.begun_onward.ensures.inward done)

pub returns-clause-done : goal.returns-clause-done
returns-clause-done c = λ done. c.begun_onward.ensures.done done ∙ ap inward_cycle c.if-short_onward.ensures.state

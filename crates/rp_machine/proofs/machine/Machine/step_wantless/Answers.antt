use Rattle.rp_machine.proofs.Agreeing.{outer_step_agrees}
use Rattle.rp_machine.proofs.machine.Machine.step_wantless.Goals as goal

pub invariant_of-self : goal.invariant_of-self
invariant_of-self g c = outer_step_agrees _ _ c.finish.ensures.state c.self-2.invariant

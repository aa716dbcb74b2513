use Rattle.rp_machine.proofs.Agreeing.{outer_step_agrees}
use Rattle.rp_machine.proofs.machine.Machine.step_for_all.Goals as goal

pub invariant_of-self-2 : goal.invariant_of-self-2
invariant_of-self-2 g c = outer_step_agrees _ _ c.finish.ensures.state c.self-2.invariant

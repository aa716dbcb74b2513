use Rattle.rp_machine.proofs.Agreeing.{step_agrees}
use Rattle.rp_machine.proofs.machine.Machine.step_inside.Goals as goal

pub invariant_of-self : goal.invariant_of-self
invariant_of-self c = rw c.finish-2.ensures.state (step_agrees _ _ c.self.invariant)

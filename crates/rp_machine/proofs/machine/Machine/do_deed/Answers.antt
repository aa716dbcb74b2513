use Rattle.rp_machine.proofs.Agreeing.{device_agrees}
use Rattle.rp_machine.proofs.machine.Machine.do_deed.Goals as goal

pub invariant_of-self : goal.invariant_of-self
invariant_of-self g c = device_agrees _ _ _ c.device_effect.ensures c.self.invariant

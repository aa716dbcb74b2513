use Rattle.std.proofs.Common.{rules}
use Rattle.outer_lane.proofs.outer.Outer.step_all.Goals as goal

pub invariant_of-self : goal.invariant_of-self
invariant_of-self c = (search rules, (search rules, λ h. (search rules, (search rules, search rules))))

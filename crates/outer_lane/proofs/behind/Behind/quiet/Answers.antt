use Rattle.std.proofs.Common.{arith}
use Rattle.outer_lane.proofs.BroughtUp.{quiet_later}
use Rattle.outer_lane.proofs.Cycles.{quiet_none}
use Rattle.outer_lane.proofs.behind.Behind.quiet.Goals as goal

pub returns-then-cycle-self : goal.returns-then-cycle-self
returns-then-cycle-self c =
    let within = c.self.invariant.0 in
    rw (← c.self.view_is)
    (quiet_later _ _ _ _ _ _ _ c.args.cycle c.self.invariant.1.1.0 (omega (arith, within)) c.if-cycle-self.true)

pub returns-else-cycle-self : goal.returns-else-cycle-self
returns-else-cycle-self c = quiet_none _ _ _ c.args.cycle

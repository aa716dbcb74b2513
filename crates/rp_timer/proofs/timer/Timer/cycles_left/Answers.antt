use Rattle.std.proofs.Common.{arith}
use Rattle.rp_timer.proofs.Passing.{passes, unarmed}
use Rattle.rp_timer.proofs.timer.Timer.cycles_left.Goals as goal

pub returns-then-self-eq0 : goal.returns-then-self-eq0
returns-then-self-eq0 c n le =
    unarmed c.args.self.now c.args.cycle c.requires (rw (← c.self.view_is) c.fact_fits.ensures.time) (rw (← c.self.view_is) c.if-self-eq0.true) n

pub returns : goal.returns
returns c n le =
    passes c.args.self.now c.args.cycle c.rises_left.result c.requires (rw (← c.self.view_is) c.fact_fits.ensures.time)
    (rw (← c.self.view_is) c.fact_fits.ensures.alarms) c.rises_left.ensures n (omega (arith, le, c.from.ensures))

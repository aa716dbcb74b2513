use Rattle.std.proofs.Common.{sym}
use Rattle.m0_nvic.proofs.Settled.{settled_quiet, quiet_none}
use Rattle.m0_nvic.proofs.Nvic.quiet.Goals as goal

pub returns-then-is_settled : goal.returns-then-is_settled
returns-then-is_settled c =
    settled_quiet c.args.lines c.args.self.now c.args.cycle c.cycles_left.result c.ranges.lines.fits (rw (← c.self.view_is) c.fact_fits.ensures.set) (sym c.if-is_settled.ensures)
    (rw (← c.self.view_is) c.cycles_left.ensures)

pub returns-else-is_settled : goal.returns-else-is_settled
returns-else-is_settled c = quiet_none c.args.lines c.args.self.now c.args.cycle

use Rattle.std.proofs.Common.{sym}
use Rattle.m0_nvic.proofs.Settled.{settled_quiet}
use Rattle.m0_nvic.proofs.Nvic.pass.Goals as goal

pub returns-then-n-cycles_left : goal.returns-then-n-cycles_left
returns-then-n-cycles_left c =
    let q = settled_quiet c.args.lines c.args.self.now c.args.first c.cycles_left.result c.ranges.lines.fits (rw (← c.self.view_is) c.fact_fits.ensures.set) (sym c.if-is_settled.ensures)
    (rw (← c.self.view_is) c.cycles_left.ensures) in
    let e = q.states c.args.n c.if-n-cycles_left.true in
    let f = rw (← c.self.view_is) at e in
    rw (c.count_down.ensures, ← c.self.view_is) (sym f)

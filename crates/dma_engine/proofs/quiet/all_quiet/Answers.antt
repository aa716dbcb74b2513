use Rattle.std.proofs.Common.{arith}
use Rattle.dma_engine.proofs.Lasting.{four_none}
use Rattle.dma_engine.proofs.quiet.all_quiet.Goals as goal

pub returns : goal.returns
returns c = λ k lt.
    let low = c.min-low.ensures in
    let high = c.min-high.ensures in
    let least = c.min.ensures in
    four_none c.args.timers.now k _ c.told-timers (c.quiet.ensures k (omega arith)) (c.quiet-2.ensures k (omega arith))
    (c.quiet-3.ensures k (omega arith)) (c.quiet-4.ensures k (omega arith))

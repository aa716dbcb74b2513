use Rattle.std.proofs.Common.{◌≡◌, true, false, rules}
use Rattle.std.specs.List.{list_any}
use Rattle.lane_look.specs.declared.lane.Ask.TheVariants.{Pacing}
use Rattle.dma_engine.specs.Awaited.{awaits_credits, NoneMoves}
use Rattle.dma_engine.specs.Timer.{runs}
use Rattle.dma_engine.proofs.Lasting.{credits_quiet, unmoved_quiet}
use Rattle.dma_engine.proofs.dma.Dma.quiet.Goals as goal

pub returns-in-RegisterWrite : goal.returns-in-RegisterWrite
returns-in-RegisterWrite c = λ answer e.
    let awaits : awaits_credits c.args.self.now ≡ true = search rules in
    credits_quiet (answer Pacing) c.args.self.now _ awaits (search rules)

pub returns-in-OtherCounts : goal.returns-in-OtherCounts
returns-in-OtherCounts c = λ answer e.
    let none : NoneMoves c.args.begun.now.counts c.args.self.now 12 = search rules in
    let off : list_any runs c.args.self.now.timers ≡ false = search rules in
    unmoved_quiet c.args.self.now c.args.begun.now _ answer e none off (c.is_nothing.ensures.read c.if-is_nothing.true)
    (c.is_nothing.ensures.write c.if-is_nothing.true)

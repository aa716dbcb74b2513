use Rattle.std.proofs.Common.{refl}
use Rattle.dma_engine.specs.Asks.{idle_begun}
use Rattle.dma_engine.specs.Awaited.{awaits_credits}
use Rattle.dma_engine.specs.State.{at_reset}
use Rattle.dma_engine.proofs.Unmoved.{asks_nothing, stays-credits}
use Rattle.dma_engine.proofs.laws.an_engine_at_reset_never_acts.Goals as goal

pub returns : goal.returns
unfolding awaits_credits
returns c = λ cycle. (idle_begun, asks_nothing at_reset refl, refl, λ turns. stays-credits at_reset idle_begun turns refl refl)

use Rattle.std.proofs.Common.{◌≡◌, ℕ, ◌<◌, false}
use Rattle.dma_engine.specs.Cycle.{is_over}
use Rattle.dma_engine.proofs.engine.Engine.some_over.Given as goal

abbrev pub invariant-loop-number : goal.invariant-loop-number
invariant-loop-number l = (k : ℕ) → k < l.number → is_over l.self k ≡ false

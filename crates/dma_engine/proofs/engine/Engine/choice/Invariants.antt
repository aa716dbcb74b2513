use Rattle.std.proofs.Common.{◌≡◌, ◌+◌, ◌%◌}
use Rattle.dma_engine.proofs.Search.{IsPassing}
use Rattle.dma_engine.proofs.engine.Engine.choice.Given as goal

abbrev pub invariant-loop-passed : goal.invariant-loop-passed
invariant-loop-passed l = record {
  found : IsPassing l.counts l.self l.other l.passed;
  at : l.number ≡ (l.self.last_chosen + l.passed) % 12;
}

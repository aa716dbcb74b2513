use Rattle.std.proofs.Common.{sym}
use Rattle.dma_engine.proofs.InTurn.{after_ends-none}
use Rattle.dma_engine.proofs.engine.Engine.end_sequences.Goals as goal

pub returns-then-not-some_over : goal.returns-then-not-some_over
returns-then-not-some_over c = sym (after_ends-none c.args.self.now (c.some_over.ensures c.if-not-some_over.true))

use Rattle.std.proofs.Common.{◌≡◌}
use Rattle.rp_base.specs.Word.{has_bit}
use Rattle.dma_engine.specs.Channel.{in_turn, with_abort}
use Rattle.dma_engine.proofs.engine.Engine.abort_all.Given as goal

abbrev pub invariant-loop-number : goal.invariant-loop-number
invariant-loop-number l = l.self ≡ in_turn (has_bit l.word) with_abort l.number l.initial.self

use Rattle.std.proofs.Common.{◌≡◌}
use Rattle.rp_base.specs.Word.{has_bit}
use Rattle.dma_engine.specs.Channel.{in_turn, with_trigger}
use Rattle.dma_engine.proofs.engine.Engine.trigger_all.Given as goal

abbrev pub invariant-loop-number : goal.invariant-loop-number
invariant-loop-number l = l.self ≡ in_turn (has_bit l.word) with_trigger l.number l.initial.self

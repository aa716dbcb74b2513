use Rattle.std.proofs.Common.{arith}
use Rattle.rp_machine.proofs.Placing.{words_more}
use Rattle.rp_machine.proofs.loading.first_words.Goals as goal

pub loop-index-preserved : goal.loop-index-preserved
loop-index-preserved c =
    (words_more _ _ _ _ _ c.loop-index.invariant.0 c.in_ok-push.ensures.items c.word_of.ensures, omega (arith, c.in_ok-push.ensures.len))

use Rattle.std.proofs.Common.{ap, ◌∙◌, ◌+◌, sym, refl}
use Rattle.m0_nvic.specs.Cycle.{after_cycle}
use Rattle.m0_nvic.proofs.Settled.{all_more}
use Rattle.m0_nvic.proofs.Nvic.end_each.Goals as goal

pub loop-k-preserved : goal.loop-k-preserved
loop-k-preserved c =
    c.end_cycle.ensures.after ∙ ap (after_cycle c.args.lines (c.args.first + c.loop-k.k)) c.loop-k.invariant
    ∙ sym (all_more c.args.lines c.args.first c.loop-k.k (c.loop-k.k + 1) c.args.self.now refl)

use Rattle.std.proofs.Common.{ap, ◌∙◌, ◌+◌, sym, refl}
use Rattle.rp_timer.specs.Step.{after_step}
use Rattle.rp_timer.proofs.Passing.{cycles-more}
use Rattle.rp_timer.proofs.timer.Timer.step_each.Goals as goal

pub loop-k-preserved : goal.loop-k-preserved
loop-k-preserved c =
    c.step.ensures ∙ ap (after_step (c.args.first + c.loop-k.k)) c.loop-k.invariant
    ∙ sym (cycles-more c.args.first c.loop-k.k (c.loop-k.k + 1) c.args.self.now refl)

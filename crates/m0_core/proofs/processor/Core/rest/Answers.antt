use Rattle.std.proofs.Common.{ap, ◌∙◌, [], ◌∷◌}
use Rattle.lane_look.specs.declared.lane.Turn.TheVariants as turn
use Rattle.lane_look.proofs.Answers.{runs_answered}
use Rattle.m0_core.specs.Cycle.{next}
use Rattle.m0_core.proofs.processor.Core.rest.Goals as goal

pub returns : goal.returns
returns c =
    c.finish_any.ensures
    ∙ ap (λ d. next c.args.self.now d (turn.Nothing ∷ turn.Nothing ∷ []))
    (runs_answered _ (λ ask. c.args.lines) _ (λ ask x k' h. h) _ _ _ c.begin_into.ensures)

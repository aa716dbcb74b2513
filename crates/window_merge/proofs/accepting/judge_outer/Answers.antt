use Rattle.window_merge.proofs.Shared.{ap, questions_of, ◌∙◌}
use Rattle.rp_machine.specs.State.{State}
use Rattle.window_merge.proofs.Verdicts.{judged_asking}
use Rattle.window_merge.proofs.accepting.judge_outer.Goals as goal

pub returns : goal.returns
returns c = λ w.
    judged_asking w c.args.number c.args.machine.now.outer c.questions_of-lane.result c.args.machine.now c.args.at_most c.args.report.now c.compare_run-outcome.result.same_length c.compare_run-outcome.result.other c.verdict.result
    c.requires.start (c.is_same.ensures.0 c.if-not-is_same.false ∙ ap (λ (s : State). s.outer) c.machine.view_is)
    (c.questions_of-lane.ensures ∙ ap (λ (s : State). questions_of s.outer) c.machine.view_is)
    c.compare_run-outcome.ensures.length c.compare_run-outcome.ensures.other c.verdict.ensures.alone c.verdict.ensures.entry

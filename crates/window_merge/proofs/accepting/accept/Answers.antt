use Rattle.window_merge.proofs.Shared.{IsAlone, IsUnlikeBy, ap, ◌∙◌}
use Rattle.rp_machine.specs.State.{State}
use Rattle.window_merge.proofs.Verdicts.{by_limit, ok_alone, err_alone}
use Rattle.window_merge.proofs.accepting.accept.Goals as goal

pub returns-in-Ok-clause-alone : goal.returns-in-Ok-clause-alone
returns-in-Ok-clause-alone c = λ w h.
    ok_alone (IsAlone w c.args.machine.now c.args.report.now) (IsUnlikeBy w c.args.machine.now c.args.report.now.lane c.args.report.now.run) c.judge_run.result c.in-Ok.field-0 c.in-Ok.is
    (by_limit w c.args.machine.now c.args.report.now c.longest_by.result c.start_of-start.result c.judge_run.result h (c.if-start-machine.false ∙ ap (λ (s : State). s.cycle) c.machine.view_is) c.longest_by.ensures.value (c.judge_run.ensures w))

pub returns-in-Err-clause-alone : goal.returns-in-Err-clause-alone
returns-in-Err-clause-alone c = λ w h.
    err_alone (IsAlone w c.args.machine.now c.args.report.now) (IsUnlikeBy w c.args.machine.now c.args.report.now.lane c.args.report.now.run) c.judge_run.result c.in-Err.entry c.in-Err.is
    (by_limit w c.args.machine.now c.args.report.now c.longest_by.result c.start_of-start.result c.judge_run.result h (c.if-start-machine.false ∙ ap (λ (s : State). s.cycle) c.machine.view_is) c.longest_by.ensures.value (c.judge_run.ensures w))

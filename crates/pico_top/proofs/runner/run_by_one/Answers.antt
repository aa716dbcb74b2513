use Rattle.window_runner.proofs.Reaching.{is_on_run, reached_first}
use Rattle.pico_top.proofs.Telling.{uncounted_for}
use Rattle.pico_top.proofs.runner.run_by_one.Goals as goal

pub returns-in_default-clause-on_run : goal.returns-in_default-clause-on_run
returns-in_default-clause-on_run g c = is_on_run _ _ _ (reached_first _ _ c.requires.number)

pub returns-in-Ok-run_cycles-clause-ran : goal.returns-in-Ok-run_cycles-clause-ran
returns-in-Ok-run_cycles-clause-ran g c = uncounted_for _ _ _ c.in-Ok-run_cycles.ran c.if-stats.false c.in-Ok-run_cycles.ensures.ran

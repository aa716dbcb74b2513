use Rattle.std.proofs.Common.{sym, drop}
use Rattle.std.proofs.lemmas.List.{take-append-drop}
use Rattle.lane_look.proofs.replay.rewind.Goals as goal

pub returns-clause-log : goal.returns-clause-log
returns-clause-log g c = (drop c.replay-used.result c.args.report.now.log, rw c.cut.ensures (sym (take-append-drop c.replay-used.result c.args.report.now.log)))

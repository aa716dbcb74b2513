use Rattle.std.proofs.Common.{arith}
use Rattle.window_merge.proofs.Walking.{lines_over, pacing_over, inputs_over, outs_over}
use Rattle.window_merge.proofs.walk.Walker.answer.Goals as goal

pub returns-in-Lines : goal.returns-in-Lines
returns-in-Lines c = search (arith, lines_over)

pub returns-in-Pacing : goal.returns-in-Pacing
returns-in-Pacing c = search (arith, pacing_over)

pub returns-in-Inputs : goal.returns-in-Inputs
returns-in-Inputs c = search (arith, inputs_over)

pub returns-in-Outs : goal.returns-in-Outs
returns-in-Outs c = search (arith, outs_over)

use Rattle.std.proofs.Common.{arith}
use Rattle.window_runner.proofs.CycleEvents.{behind_first, behind_step, behind_end}
use Rattle.window_runner.proofs.Telling.{taken_nothing, taken_same, taken_more, taken_part, taken_all}
use Rattle.window_runner.proofs.events.tell_marks.Goals as goal

pub loop-index-init : goal.loop-index-init
loop-index-init g c =
    taken_same _ _ _ _ _ _ _ _ (taken_nothing _ _ _ _ g.met.T.Tape.takes_none) (behind_first c.args.cycle c.args.before c.args.marks.now)

pub returns-in-Err : goal.returns-in-Err
returns-in-Err g c =
    taken_part _ _ _ _ _ _ _ _ _ _ _ _ g.met.T.Tape.takes_in_turn
    (taken_same _ _ _ _ _ _ _ _ c.loop-index.invariant (behind_step _ _ _ _ _ _ c.from.ensures c.entry-mark.ensures)) c.in-Err.ensures

pub loop-index-preserved : goal.loop-index-preserved
loop-index-preserved g c =
    let told = c.in-Ok.ensures in
    taken_more _ _ _ _ _ _ _ _ _ _ g.met.T.Tape.takes_in_turn
    (taken_same _ _ _ _ _ _ _ _ c.loop-index.invariant (behind_step _ _ _ _ _ _ c.from.ensures c.entry-mark.ensures)) told.ok told.count

pub returns : goal.returns
returns g c =
    let ended = c.loop-index-test.false in
    let count = c.count-index-end.ensures.value in
    taken_all _ _ _ _ _ _ _ _ tt c.loop-index.invariant (behind_end c.args.cycle _ c.args.marks.now c.loop-index.index (omega arith))

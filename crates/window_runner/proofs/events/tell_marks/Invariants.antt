use Rattle.window_runner.specs.Told.{all_shown, events_by}
use Rattle.window_runner.proofs.CycleEvents.{shown_behind}
use Rattle.window_runner.specs.Course.{TakenBefore}
use Rattle.window_runner.proofs.events.tell_marks.Given as goal

-- the events of the marks from this index on are left
abbrev pub invariant-loop-index : goal.invariant-loop-index
invariant-loop-index g l =
    TakenBefore g.T.Tape.took l.initial.tape l.tape (g.T.Tape.faults l.initial.tape) (g.T.Tape.faults l.tape)
    (all_shown (events_by l.cycle l.before l.marks)) (shown_behind l.cycle l.levels l.marks l.index)

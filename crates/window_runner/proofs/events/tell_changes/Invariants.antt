use Rattle.window_runner.proofs.Shared.{TakenBefore, all_shown, changes_of, ◌-◌}
use Rattle.window_runner.proofs.CycleEvents.{shown_from}
use Rattle.window_runner.proofs.events.tell_changes.Given as goal

-- the changes of the pins from this one on are left
abbrev pub invariant-loop-pin : goal.invariant-loop-pin
invariant-loop-pin g l =
    TakenBefore g.T.Tape.took l.initial.tape l.tape (g.T.Tape.faults l.initial.tape) (g.T.Tape.faults l.tape)
    (all_shown (changes_of l.cycle l.before l.after)) (shown_from l.cycle l.changed l.after l.pin (30 - l.pin))

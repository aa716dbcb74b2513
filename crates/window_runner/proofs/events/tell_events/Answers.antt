use Rattle.window_runner.proofs.CycleEvents.{events_both}
use Rattle.window_runner.proofs.Telling.{tells_then, tells_cut}
use Rattle.window_runner.proofs.events.tell_events.Goals as goal

pub returns-in-Ok : goal.returns-in-Ok
returns-in-Ok g c =
    tells_then _ _ _ _ _ _ _ _ _ _ _ _ _ g.met.T.Tape.takes_in_turn (events_both c.args.cycle c.args.before c.args.mark.now)
    c.in-Ok.ensures c.tell_changes.ensures

pub returns-in-Err : goal.returns-in-Err
returns-in-Err g c = tells_cut _ _ _ _ _ _ _ _ _ _ (events_both c.args.cycle c.args.before c.args.mark.now) c.in-Err.ensures

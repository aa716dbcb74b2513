use Rattle.window_runner.proofs.CycleEvents.{no_events}
use Rattle.window_runner.proofs.Telling.{tells_none}
use Rattle.window_runner.proofs.events.tell_cycle.Goals as goal

pub returns-then-is_quiet : goal.returns-then-is_quiet
returns-then-is_quiet g c =
    tells_none _ _ _ _ _ _ g.met.T.Tape.takes_none
    (no_events c.args.cycle c.args.before c.args.mark.now ((c.is_quiet.ensures.0 c.if-is_quiet.true).0) ((c.is_quiet.ensures.0 c.if-is_quiet.true).1))

use Rattle.window_runner.proofs.CycleEvents.{no_byte, one_byte}
use Rattle.window_runner.proofs.Telling.{tells_none, tells_one}
use Rattle.window_runner.proofs.events.tell_byte.Goals as goal

pub returns-in-None : goal.returns-in-None
returns-in-None g c = tells_none _ _ _ _ _ _ g.met.T.Tape.takes_none (no_byte c.args.cycle c.args.number c.args.byte c.in-None.is)

pub returns-in-Some : goal.returns-in-Some
returns-in-Some g c =
    let told = c.event.ensures in
    tells_one _ _ _ _ _ _ _ _ _ g.met.T.Tape.takes_none (one_byte c.args.cycle c.args.number c.args.byte c.in-Some.byte c.in-Some.is)
    told.taken told.failed told.cause told.count

use Rattle.std.proofs.Common.{sym, ◌∙◌}
use Rattle.window_runner.proofs.CycleEvents.{no_change, one_change}
use Rattle.window_runner.proofs.Telling.{tells_none, tells_one}
use Rattle.window_runner.proofs.events.tell_change.Goals as goal

pub returns-then-has_bit : goal.returns-then-has_bit
returns-then-has_bit g c =
    let told = c.event.ensures in
    tells_one _ _ _ _ _ _ _ _ _ g.met.T.Tape.takes_none
    (one_change c.args.cycle c.args.changed c.args.after c.args.pin _ _ c.has_bit-level.result c.from.ensures c.from-then-has_bit.ensures (sym c.has_bit.ensures ∙ c.if-has_bit.true) c.has_bit-level.ensures)
    told.taken told.failed told.cause told.count

pub returns-else-has_bit : goal.returns-else-has_bit
returns-else-has_bit g c =
    tells_none _ _ _ _ _ _ g.met.T.Tape.takes_none
    (no_change c.args.cycle c.args.changed c.args.after c.args.pin _ c.from.ensures (sym c.has_bit.ensures ∙ c.if-has_bit.false))

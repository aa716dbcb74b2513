use Rattle.std.proofs.Common.{refl}
use Rattle.window_runner.proofs.CycleEvents.{lowest_first, from_step, from_end, none_left, no_changes}
use Rattle.window_runner.proofs.Telling.{taken_nothing, taken_same, taken_more, taken_part, taken_all, tells_none}
use Rattle.window_runner.proofs.events.tell_changes.Goals as goal

pub returns-then-changed-eq0 : goal.returns-then-changed-eq0
returns-then-changed-eq0 g c =
    tells_none _ _ _ _ _ _ g.met.T.Tape.takes_none (no_changes c.args.cycle c.args.before c.args.after c.if-changed-eq0.true)

pub loop-pin-init : goal.loop-pin-init
loop-pin-init g c =
    taken_same _ _ _ _ _ _ _ _ (taken_nothing _ _ _ _ g.met.T.Tape.takes_none)
    (lowest_first c.args.cycle c.args.before c.args.after c.ranges.before.fits c.ranges.after.fits c.if-changed-eq0.false)

pub returns-in-Err : goal.returns-in-Err
returns-in-Err g c =
    taken_part _ _ _ _ _ _ _ _ _ _ _ _ g.met.T.Tape.takes_in_turn
    (taken_same _ _ _ _ _ _ _ _ c.loop-pin.invariant (from_step _ _ _ c.loop-pin.pin c.loop-pin-test.true)) c.in-Err.ensures

pub loop-pin-preserved : goal.loop-pin-preserved
loop-pin-preserved g c =
    let told = c.in-Ok.ensures in
    taken_more _ _ _ _ _ _ _ _ _ _ g.met.T.Tape.takes_in_turn
    (taken_same _ _ _ _ _ _ _ _ c.loop-pin.invariant (from_step _ _ _ c.loop-pin.pin c.loop-pin-test.true)) told.ok told.count

pub returns : goal.returns
returns g c = taken_all _ _ _ _ _ _ _ _ tt c.loop-pin.invariant (from_end _ _ _ c.loop-pin.pin c.loop-pin-test.false)

pub returns-then-changed-pin-eq0 : goal.returns-then-changed-pin-eq0
returns-then-changed-pin-eq0 g c =
    taken_all _ _ _ _ _ _ _ _ tt c.loop-pin.invariant (none_left c.args.cycle _ c.args.after c.loop-pin.pin c.loop-pin.pin refl c.if-changed-pin-eq0.true)

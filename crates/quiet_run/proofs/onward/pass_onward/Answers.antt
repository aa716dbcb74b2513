use Rattle.std.proofs.Common.{refl, sym, arith}
use Rattle.outer_lane.specs.Setting.{setting}
use Rattle.quiet_run.proofs.Passing.{no_states, quiet_none}
use Rattle.quiet_run.proofs.GoneOn.{goes_onward, goes_unstopped, number_fits, may_bring_up, brought_up}
use Rattle.quiet_run.proofs.onward.pass_onward.Goals as goal

pub returns-then-to-at-clause-state : goal.returns-then-to-at-clause-state
returns-then-to-at-clause-state g c = sym (no_states (setting g.X.Device.meaning c.args.world.now) c.args.machine.now 0 refl)

pub returns-then-to-at-clause-quiet : goal.returns-then-to-at-clause-quiet
returns-then-to-at-clause-quiet g c = quiet_none (setting g.X.Device.meaning c.args.world.now) c.args.machine.now

pub returns-in_default-clause-state : goal.returns-in_default-clause-state
returns-in_default-clause-state g c = sym (no_states (setting g.X.Device.meaning c.args.world.now) c.args.machine.now 0 refl)

pub returns-in_default-clause-quiet : goal.returns-in_default-clause-quiet
returns-in_default-clause-quiet g c = quiet_none (setting g.X.Device.meaning c.args.world.now) c.args.machine.now

pub bring_up-requires-clause-number : goal.bring_up-requires-clause-number
bring_up-requires-clause-number g c κs within =
    let room = c.in-Some.ensures.1 in
    let at = c.number-at.ensures in
    let ahead = c.if-to-at.false in
    number_fits (setting g.X.Device.meaning c.args.world.now) c.args.machine.now c.in-Some.seen c.in-Some.most c.go_onward-done.result c.args.to _ c.in-Some.ensures.0 c.go_onward-done.ensures.most (omega (arith, room, at, ahead)) c.ranges.to.fits

pub bring_up-requires-clause-quiet : goal.bring_up-requires-clause-quiet
bring_up-requires-clause-quiet g c κs within = may_bring_up (setting g.X.Device.meaning c.args.world.now) c.args.machine.now c.go_onward-done.new.machine c.in-Some.seen c.in-Some.most c.go_onward-done.result c.in-Some.ensures.0 c.go_onward-done.ensures.most c.go_onward-done.ensures.state

pub returns-clause-state : goal.returns-clause-state
returns-clause-state g c =
    brought_up (setting g.X.Device.meaning c.args.world.now) c.args.machine.now c.go_onward-done.new.machine c.bring_up.new.machine c.in-Some.seen c.in-Some.most c.go_onward-done.result c.in-Some.ensures.0 c.go_onward-done.ensures.most c.go_onward-done.ensures.inward c.go_onward-done.ensures.state c.bring_up.ensures

pub returns-clause-quiet : goal.returns-clause-quiet
returns-clause-quiet g c = (goes_onward (setting g.X.Device.meaning c.args.world.now) c.args.machine.now c.in-Some.seen c.in-Some.most c.go_onward-done.result c.in-Some.ensures.0 c.go_onward-done.ensures.most c.go_onward-done.ensures.inward).quiet

pub returns-clause-within : goal.returns-clause-within
returns-clause-within g c =
    let room = c.in-Some.ensures.1 in
    let few = c.go_onward-done.ensures.most in
    let at = c.number-at.ensures in
    let ahead = c.if-to-at.false in
    λ some. omega (arith, room, few, at, ahead)

pub returns-clause-unstopped : goal.returns-clause-unstopped
returns-clause-unstopped g c k lt =
    goes_unstopped (setting g.X.Device.meaning c.args.world.now) c.args.machine.now c.in-Some.seen c.in-Some.most c.go_onward-done.result c.in-Some.ensures.0 c.go_onward-done.ensures.most c.go_onward-done.ensures.inward
    (g.W.Watch.stops c.args.watch.now) (g.met.W.Watch.looks_inward c.args.watch.now) c.go_onward-done.ensures.unstopped k lt

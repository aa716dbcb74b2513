use Rattle.std.proofs.Common.{◌<◌, refl, sym, subst, arith}
use Rattle.outer_lane.specs.Setting.{setting}
use Rattle.rp_machine.specs.Copies.{CopiesAgree}
use Rattle.quiet_run.proofs.NoWork.{no_work_within}
use Rattle.quiet_run.proofs.Passing.{no_states, quiet_none, quiet_cycles}
use Rattle.quiet_run.proofs.pass.pass_waiting.Goals as goal

pub returns-then-not-is_waiting-clause-state : goal.returns-then-not-is_waiting-clause-state
returns-then-not-is_waiting-clause-state g c = sym (no_states (setting g.X.Device.meaning c.args.world.now) c.args.machine.now 0 refl)

pub returns-then-not-is_waiting-clause-quiet : goal.returns-then-not-is_waiting-clause-quiet
returns-then-not-is_waiting-clause-quiet g c = quiet_none (setting g.X.Device.meaning c.args.world.now) c.args.machine.now

pub returns-then-n-eq0-clause-state : goal.returns-then-n-eq0-clause-state
returns-then-n-eq0-clause-state g c = sym (no_states (setting g.X.Device.meaning c.args.world.now) c.args.machine.now 0 refl)

pub returns-then-n-eq0-clause-quiet : goal.returns-then-n-eq0-clause-quiet
returns-then-n-eq0-clause-quiet g c = quiet_none (setting g.X.Device.meaning c.args.world.now) c.args.machine.now

pub returns-clause-quiet : goal.returns-clause-quiet
returns-clause-quiet g c =
    let some : 0 < c.quiet-n.result = let no = c.if-n-eq0.false in omega (arith, no) in
    quiet_cycles (setting g.X.Device.meaning c.args.world.now) c.args.machine.now c.quiet-n.result
    (subst CopiesAgree c.machine.view_is c.machine.invariant) (c.quiet-n.ensures.parts some)

pub returns-clause-no_work : goal.returns-clause-no_work
returns-clause-no_work g c =
    let some : 0 < c.quiet-n.result = let no = c.if-n-eq0.false in omega (arith, no) in
    no_work_within (setting g.X.Device.meaning c.args.world.now) c.args.machine.now c.quiet-n.result
    (subst CopiesAgree c.machine.view_is c.machine.invariant) (c.quiet-n.ensures.parts some)

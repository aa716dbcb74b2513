use Rattle.window_merge.proofs.Shared.{CopiesAgree, arith, fewer_parts, setting, subst, ◌*◌, ◌/◌, ◌<◌}
use Rattle.window_merge.proofs.WaitingCycles.{quiet_windows}
use Rattle.window_merge.proofs.quiet.pass_windows.Goals as goal

pub pass-requires-clause-quiet : goal.pass-requires-clause-quiet
pass-requires-clause-quiet g c κs within =
    let n = c.quiet-windows.result in
    let some : 0 < n = let no = c.if-windows-eq0.false in omega (arith, no) in
    fewer_parts (setting g.X.Device.meaning c.args.world.now) c.args.machine.now n (n / 256 * 256) (c.quiet-windows.ensures.parts some) (omega arith)

pub returns-clause-quiet : goal.returns-clause-quiet
returns-clause-quiet g c =
    let n = c.quiet-windows.result in
    let some : 0 < n = let no = c.if-windows-eq0.false in omega (arith, no) in
    quiet_windows (setting g.X.Device.meaning c.args.world.now) c.args.machine.now n (n / 256) (subst CopiesAgree c.machine.view_is c.machine.invariant) c.fact_copies_are_known.ensures.sram
    (c.quiet-windows.ensures.parts some) (omega arith)

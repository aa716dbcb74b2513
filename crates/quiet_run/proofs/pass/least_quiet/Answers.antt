use Rattle.std.proofs.Common.{arith}
use Rattle.outer_lane.specs.Setting.{setting}
use Rattle.rp_machine.specs.contracts.machine.Machine.{the_view}
use Rattle.quiet_run.proofs.Passing.{parts_by}
use Rattle.quiet_run.proofs.pass.least_quiet.Goals as goal

pub returns-clause-parts : goal.returns-clause-parts
returns-clause-parts g c =
    let a = c.min-cores.ensures in
    let b = c.min-parts.ensures in
    let d = c.min.ensures in
    let lanes = c.min-lanes.ensures in
    let room = c.requires.room in
    parts_by (setting g.X.Device.meaning c.args.world.now) (the_view c.machine.inside) c.args.machine.now c.lines-lines0.result c.lines-lines1.result c.quiet-core0.result c.quiet-core1.result c.quiet-outer.result c.args.blocks c.min.result c.args.at c.args.to c.begin_outer-seen.result
    c.machine.view_is c.requires.others c.requires.at c.lines-lines0.ensures c.lines-lines1.ensures c.begin_outer-seen.ensures c.quiet-core0.ensures c.quiet-core1.ensures c.quiet-outer.ensures c.requires.blocks
    (omega arith) (omega arith) (omega arith) (omega arith) (omega arith) c.requires.limit

use Rattle.std.proofs.Common.{arith}
use Rattle.outer_lane.specs.Setting.{setting}
use Rattle.rp_machine.specs.contracts.machine.Machine.{the_view}
use Rattle.quiet_run.proofs.GoneOn.{may_go}
use Rattle.quiet_run.proofs.onward.room_alone.Goals as goal

pub returns : goal.returns
returns g c =
    let min = c.min.ensures in
    let lanes = c.min-lanes.ensures in
    let others = c.min-others.ensures in
    let room = c.requires in (
      may_go (setting g.X.Device.meaning c.args.world.now) (the_view c.machine.inside) c.args.machine.now c.begin_outer-seen.result c.offers.result c.quiet_blocks-blocks.result c.quiet_core1.result c.quiet-outer.result c.min.result
          c.machine.view_is c.machine.invariant c.offers.ensures c.if-offers.false c.quiet_blocks-blocks.ensures c.quiet_core1.ensures c.begin_outer-seen.ensures c.quiet-outer.ensures
          (omega arith) (omega arith) (omega arith) (omega arith),
      omega arith,
    )

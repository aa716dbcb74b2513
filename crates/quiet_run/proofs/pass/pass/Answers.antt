use Rattle.std.proofs.Common.{◌∙◌}
use Rattle.outer_lane.specs.Setting.{setting}
use Rattle.rp_machine.specs.contracts.machine.Machine.{the_view}
use Rattle.quiet_run.proofs.Passing.{have_passed, passed_agrees, passed_states}
use Rattle.quiet_run.proofs.pass.pass.Goals as goal

pub invariant_of-machine : goal.invariant_of-machine
invariant_of-machine g c =
    passed_agrees (setting g.X.Device.meaning c.args.world.now) (the_view c.machine.inside) c.args.machine.now c.args.n c.pass.new.self c.pass-2.new.self c.pass-3.new.self (c.machine.view_is ∙ c.pass_blocks.ensures) c.machine.invariant c.requires.quiet
    (have_passed (setting g.X.Device.meaning c.args.world.now) (the_view c.machine.inside) c.args.machine.now c.lines-lines0.result c.lines-lines1.result c.number-at.result c.args.n c.seen_now-seen.result c.pass.new.self c.pass-2.new.self c.pass-3.new.self (c.machine.view_is ∙ c.pass_blocks.ensures) c.number-at.ensures c.lines-lines0.ensures c.lines-lines1.ensures c.seen_now-seen.ensures.value c.pass.ensures c.pass-2.ensures c.pass-3.ensures)

pub returns : goal.returns
returns g c =
    passed_states (setting g.X.Device.meaning c.args.world.now) (the_view c.machine.inside) c.args.machine.now c.number-at.result c.args.n c.pass.new.self c.pass-2.new.self c.pass-3.new.self (c.machine.view_is ∙ c.pass_blocks.ensures) c.number-at.ensures c.machine.invariant c.requires.quiet
    (have_passed (setting g.X.Device.meaning c.args.world.now) (the_view c.machine.inside) c.args.machine.now c.lines-lines0.result c.lines-lines1.result c.number-at.result c.args.n c.seen_now-seen.result c.pass.new.self c.pass-2.new.self c.pass-3.new.self (c.machine.view_is ∙ c.pass_blocks.ensures) c.number-at.ensures c.lines-lines0.ensures c.lines-lines1.ensures c.seen_now-seen.ensures.value c.pass.ensures c.pass-2.ensures c.pass-3.ensures)

pub pass_blocks-requires : goal.pass_blocks-requires
pass_blocks-requires g c = c.requires.quiet.blocks.dma.credits

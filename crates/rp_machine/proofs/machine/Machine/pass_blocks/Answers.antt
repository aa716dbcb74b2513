use Rattle.rp_machine.specs.contracts.machine.Machine.{the_view}
use Rattle.rp_machine.proofs.Going.{passed_by}
use Rattle.rp_machine.proofs.machine.Machine.pass_blocks.Goals as goal

pub returns : goal.returns
returns c =
    passed_by (the_view c.self.inside) c.args.self.now c.args.n c.pass.new.self c.pass-2.new.self c.pass-3.new.self c.self.view_is c.pass.ensures
    c.pass-2.ensures c.pass-3.ensures

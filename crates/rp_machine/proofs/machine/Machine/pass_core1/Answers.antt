use Rattle.rp_machine.proofs.Shared.{sym, the_view, ◌∙◌}
use Rattle.rp_machine.proofs.Going.{core1_stays}
use Rattle.rp_machine.proofs.machine.Machine.pass_core1.Goals as goal

pub returns-then-is_asleep : goal.returns-then-is_asleep
returns-then-is_asleep c = core1_stays (the_view c.self.inside) c.args.self.now c.args.first c.args.n c.self.view_is (sym c.is_asleep.ensures ∙ c.if-is_asleep.true)

use Rattle.rp_machine.proofs.Shared.{sym, the_view, ◌-◌, ◌^◌, ◌∙◌}
use Rattle.rp_machine.proofs.Going.{core1_sleeps, core1_quiet_by}
use Rattle.rp_machine.proofs.machine.Machine.quiet_core1.Goals as goal

pub returns-then-is_asleep : goal.returns-then-is_asleep
returns-then-is_asleep c = core1_sleeps (the_view c.self.inside) c.args.self.now (2 ^ 64 - 1) c.self.view_is (sym c.is_asleep.ensures ∙ c.if-is_asleep.true)

pub returns : goal.returns
returns c = core1_quiet_by (the_view c.self.inside) c.args.self.now c.lines-lines.result c.quiet.result c.self.view_is c.lines-lines.ensures c.quiet.ensures

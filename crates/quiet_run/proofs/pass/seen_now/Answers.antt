use Rattle.std.proofs.Common.{ap, ◌∙◌}
use Rattle.outer_lane.specs.declared.world.SeenOutputs.{SeenOutputs}
use Rattle.rp_machine.proofs.Quietly.{seen_number}
use Rattle.quiet_run.proofs.pass.seen_now.Goals as goal

pub returns-clause-cycle : goal.returns-clause-cycle
returns-clause-cycle g c = ap (λ (x : SeenOutputs). x.cycle) c.begin_outer.ensures ∙ seen_number c.args.machine.now

use Rattle.std.proofs.Common.{ap, ◌∙◌, ◌-◌}
use Rattle.pio_machine.proofs.Waits.{waited_by}
use Rattle.pio_machine.proofs.machine.Machine1.pass.Goals as goal

pub returns-then-self-clause-after : goal.returns-then-self-clause-after
returns-then-self-clause-after c =
    waited_by c.args.self.now c.args.n c.divided-acc.result.0 c.divided-acc.result.1 c.saturating_sub.result c.args.settings.now.period c.if-self.true
    (ap (λ x. x.period) c.requires) c.divided-acc.ensures.sum c.divided-acc.ensures.least (c.saturating_sub.ensures ∙ ap (λ x. x - c.divided-acc.result.1) c.from.ensures)

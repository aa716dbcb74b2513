use Rattle.pio_machine.proofs.Shared.{ap, settings_of, sym, ◌∙◌}
use Rattle.pio_machine.proofs.Ready.{settings_tried}
use Rattle.pio_machine.proofs.machine.Machine1.attempt.Goals as goal

pub refill_for-requires : goal.refill_for-requires
refill_for-requires c =
    c.requires.settings ∙ sym (ap settings_of c.perform-outcome.ensures.machine ∙ settings_tried c.args.op.now c.args.number c.args.seen.now c.args.self.now)

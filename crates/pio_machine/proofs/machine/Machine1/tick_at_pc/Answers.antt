use Rattle.pio_machine.proofs.Shared.{ap, operation_of, sym, ◌∙◌}
use Rattle.pio_machine.proofs.machine.Machine1.tick_at_pc.Goals as goal

pub attempt-requires-clause-operation : goal.attempt-requires-clause-operation
attempt-requires-clause-operation c = c.operation-operation.ensures ∙ sym (ap operation_of c.word-word.ensures)

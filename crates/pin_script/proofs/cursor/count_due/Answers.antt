use Rattle.std.proofs.Common.{arith}
use Rattle.pin_script.proofs.Due.{count_is, due_are_first}
use Rattle.pin_script.proofs.cursor.count_due.Goals as goal

pub returns-else-cycle_at-cycle-clause-due : goal.returns-else-cycle_at-cycle-clause-due
returns-else-cycle_at-cycle-clause-due c =
    due_are_first _ _ _ c.requires c.loop-due.invariant.0 c.loop-due.invariant.1 (λ lt. omega (arith, c.cycle_at.ensures))

pub returns-after-loop-due-clause-due : goal.returns-after-loop-due-clause-due
returns-after-loop-due-clause-due c =
    due_are_first _ _ _ c.requires c.loop-due.invariant.0 c.loop-due.invariant.1 (λ lt. absurd (omega arith))

pub returns-else-cycle_at-cycle-clause-count : goal.returns-else-cycle_at-cycle-clause-count
returns-else-cycle_at-cycle-clause-count c =
    count_is _ _ _ c.loop-due.invariant.0
    (due_are_first _ _ _ c.requires c.loop-due.invariant.0 c.loop-due.invariant.1 (λ lt. omega (arith, c.cycle_at.ensures)))

pub returns-after-loop-due-clause-count : goal.returns-after-loop-due-clause-count
returns-after-loop-due-clause-count c =
    count_is _ _ _ c.loop-due.invariant.0
    (due_are_first _ _ _ c.requires c.loop-due.invariant.0 c.loop-due.invariant.1 (λ lt. absurd (omega arith)))

-- The comparisons of what waits in a machine are true exactly where both are one.
use Rattle.pio_machine.proofs.Shared.{IsExact, flags, numbers, pairs, parts, refl}
use Rattle.pio_machine.specs.contracts.machine.ProgressPartialEq.TheImpl as progress
use Rattle.pio_machine.specs.contracts.machine.WaitingPartialEq.TheImpl as waiting

pub exact_progress : IsExact progress.eq-value.it
exact_progress = parts (λ t. (t.raised, t.shifted))
    (λ p. record { raised = p.0; shifted = p.1 }) (λ _. refl)
    (pairs flags flags)

pub exact_waiting : IsExact waiting.eq-value.it
exact_waiting = parts (λ t. (t.word, (t.forced, t.progress)))
    (λ p. record { word = p.0; forced = p.1.0; progress = p.1.1 }) (λ _. refl)
    (pairs numbers (pairs flags exact_progress))

-- The comparisons of events are true exactly where both are one.
use Rattle.std.proofs.Common.{refl}
use Rattle.rp_base.proofs.Exact.{IsExact, numbers, pairs, parts}
use Rattle.io_bank.specs.contracts.events.EdgesPartialEq.TheImpl as edges
use Rattle.io_bank.specs.contracts.events.EventsPartialEq.TheImpl as events
use Rattle.io_bank.specs.contracts.events.InterruptsPartialEq.TheImpl as interrupts

pub exact_edges : IsExact edges.eq-value.it
exact_edges = parts (λ t. (t.low, t.high))
    (λ p. record { low = p.0; high = p.1 }) (λ _. refl)
    (pairs numbers numbers)

pub exact_events : IsExact events.eq-value.it
exact_events = parts (λ t. (t.level_low, (t.level_high, (t.edge_low, t.edge_high))))
    (λ p. record { level_low = p.0; level_high = p.1.0; edge_low = p.1.1.0; edge_high = p.1.1.1 }) (λ _. refl)
    (pairs numbers (pairs numbers (pairs numbers numbers)))

pub exact_interrupts : IsExact interrupts.eq-value.it
exact_interrupts = parts (λ t. (t.enable, t.force))
    (λ p. record { enable = p.0; force = p.1 }) (λ _. refl)
    (pairs exact_events exact_events)

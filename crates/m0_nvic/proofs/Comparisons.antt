-- The comparison of two system timers is true exactly where both are one.
use Rattle.std.proofs.Common.{refl}
use Rattle.rp_base.proofs.Exact.{IsExact, numbers, flags, pairs, parts}
use Rattle.m0_nvic.specs.contracts.systick.SysTickPartialEq.TheImpl as systick

pub exact_systick : IsExact systick.eq-value.it
exact_systick = parts (λ t. (t.enable, (t.interrupt, (t.core_clock, (t.counted, (t.reload, t.current))))))
    (λ p. record { enable = p.0; interrupt = p.1.0; core_clock = p.1.1.0; counted = p.1.1.1.0; reload = p.1.1.1.1.0; current = p.1.1.1.1.1 }) (λ _. refl)
    (pairs flags (pairs flags (pairs flags (pairs flags (pairs numbers numbers)))))

use Rattle.std.proofs.Common.{refl}
use Rattle.rp_base.proofs.Exact.{numbers, flags, lists, both, whole, seen, told}
use Rattle.io_bank.proofs.Comparisons.{exact_edges, exact_interrupts}
use Rattle.io_bank.proofs.bank.IoBank.is_same.Goals as goal

pub returns : goal.returns
returns c = seen _ c.self.view_is c.other.view_is
    (whole _
    (λ t. (((((((((((t.bank_held, t.pads_held), t.controls), t.pads), t.voltage), t.latched), t.fresh), t.core0), t.core1), t.current), t.first), t.second))
    (λ p. record { bank_held = p.0.0.0.0.0.0.0.0.0.0.0; pads_held = p.0.0.0.0.0.0.0.0.0.0.1; controls = p.0.0.0.0.0.0.0.0.0.1; pads = p.0.0.0.0.0.0.0.0.1; voltage = p.0.0.0.0.0.0.0.1; latched = p.0.0.0.0.0.0.1; fresh = p.0.0.0.0.0.1; core0 = p.0.0.0.0.1; core1 = p.0.0.0.1; current = p.0.0.1; first = p.0.1; second = p.1 })
    (λ _. refl)
    (both _ _ (both _ _ (both _ _ (both _ _ (both _ _ (both _ _ (both _ _ (both _ _ (both _ _ (both _ _ (both _ _ (flags _ _)
    (flags _ _))
    (told _ (lists numbers) c.eq-controls.ensures))
    (told _ (lists numbers) c.eq-pads.ensures))
    (numbers _ _))
    (told _ exact_edges c.eq-latched.ensures))
    (told _ exact_edges c.eq-fresh.ensures))
    (told _ exact_interrupts c.eq-core0.ensures))
    (told _ exact_interrupts c.eq-core1.ensures))
    (numbers _ _))
    (numbers _ _))
    (numbers _ _)))

use Rattle.pio_machine.proofs.Shared.{both, flags, numbers, options, refl, told, whole}
use Rattle.pio_machine.proofs.Comparisons.{exact_progress, exact_waiting}
use Rattle.pio_machine.proofs.machine.Machine1.is_same.Goals as goal

pub returns : goal.returns
returns c =
    (whole _
    (λ t. (((((((((((((((((((t.enabled, t.clkdiv), t.execctrl), t.shiftctrl), t.pinctrl), t.acc), t.x), t.y), t.isr), t.isr_count), t.osr), t.osr_count), t.pc), t.delay), t.waiting), t.progress), t.tx), t.rx), t.tx_stall), t.rx_stall))
    (λ p. record { enabled = p.0.0.0.0.0.0.0.0.0.0.0.0.0.0.0.0.0.0.0; clkdiv = p.0.0.0.0.0.0.0.0.0.0.0.0.0.0.0.0.0.0.1; execctrl = p.0.0.0.0.0.0.0.0.0.0.0.0.0.0.0.0.0.1; shiftctrl = p.0.0.0.0.0.0.0.0.0.0.0.0.0.0.0.0.1; pinctrl = p.0.0.0.0.0.0.0.0.0.0.0.0.0.0.0.1; acc = p.0.0.0.0.0.0.0.0.0.0.0.0.0.0.1; x = p.0.0.0.0.0.0.0.0.0.0.0.0.0.1; y = p.0.0.0.0.0.0.0.0.0.0.0.0.1; isr = p.0.0.0.0.0.0.0.0.0.0.0.1; isr_count = p.0.0.0.0.0.0.0.0.0.0.1; osr = p.0.0.0.0.0.0.0.0.0.1; osr_count = p.0.0.0.0.0.0.0.0.1; pc = p.0.0.0.0.0.0.0.1; delay = p.0.0.0.0.0.0.1; waiting = p.0.0.0.0.0.1; progress = p.0.0.0.0.1; tx = p.0.0.0.1; rx = p.0.0.1; tx_stall = p.0.1; rx_stall = p.1 })
    (λ _. refl)
    (both _ _ (both _ _ (both _ _ (both _ _ (both _ _ (both _ _ (both _ _ (both _ _ (both _ _ (both _ _ (both _ _ (both _ _ (both _ _ (both _ _ (both _ _ (both _ _ (both _ _ (both _ _ (both _ _ (flags _ _)
    (numbers _ _))
    (numbers _ _))
    (numbers _ _))
    (numbers _ _))
    (numbers _ _))
    (numbers _ _))
    (numbers _ _))
    (numbers _ _))
    (numbers _ _))
    (numbers _ _))
    (numbers _ _))
    (numbers _ _))
    (numbers _ _))
    (told _ (options exact_waiting) c.eq-waiting.ensures))
    (told _ exact_progress c.eq-progress.ensures))
    c.is_same-tx.ensures)
    c.is_same-rx.ensures)
    (flags _ _))
    (flags _ _)))

use Rattle.std.proofs.Common.{refl}
use Rattle.rp_base.proofs.Exact.{numbers, both, whole, seen}
use Rattle.pio_block.proofs.state.State.is_same.Goals as goal

pub returns : goal.returns
returns c = seen _ c.self.view_is c.other.view_is
    (whole _
    (λ t. (((((((((((t.machines, t.memory), t.flags), t.bypass), t.levels), t.enables), t.tx_over), t.rx_under), t.inte0), t.intf0), t.inte1), t.intf1))
    (λ p. record { machines = p.0.0.0.0.0.0.0.0.0.0.0; memory = p.0.0.0.0.0.0.0.0.0.0.1; flags = p.0.0.0.0.0.0.0.0.0.1; bypass = p.0.0.0.0.0.0.0.0.1; levels = p.0.0.0.0.0.0.0.1; enables = p.0.0.0.0.0.0.1; tx_over = p.0.0.0.0.0.1; rx_under = p.0.0.0.0.1; inte0 = p.0.0.0.1; intf0 = p.0.0.1; inte1 = p.0.1; intf1 = p.1 })
    (λ _. refl)
    (both _ _ (both _ _ (both _ _ (both _ _ (both _ _ (both _ _ (both _ _ (both _ _ (both _ _ (both _ _ (both _ _ c.is_same-machines.ensures
    c.is_same-memory.ensures)
    (numbers _ _))
    (numbers _ _))
    (numbers _ _))
    (numbers _ _))
    (numbers _ _))
    (numbers _ _))
    (numbers _ _))
    (numbers _ _))
    (numbers _ _))
    (numbers _ _)))

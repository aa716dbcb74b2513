use Rattle.std.proofs.Common.{refl}
use Rattle.rp_base.proofs.Exact.{numbers, lists, both, whole, seen, told}
use Rattle.outer_lane.specs.BroughtUp.{blocks_of}
use Rattle.outer_lane.proofs.outer.Outer.is_same.Goals as goal

pub returns : goal.returns
returns c = seen _ c.self.view_is c.other.view_is
    (whole _
    (λ t. ((((blocks_of t, t.pads), t.irq), t.device), t.sio))
    (λ p. record { timer = p.0.0.0.0.timer; uart0 = p.0.0.0.0.uart0; uart1 = p.0.0.0.0.uart1; pads = p.0.0.0.1; irq = p.0.0.1; device = p.0.1; sio = p.1 })
    (λ _. refl)
    (both _ _ (both _ _ (both _ _ (both _ _ c.is_same-blocks.ensures c.is_same-pads.ensures)
    (numbers _ _))
    (seen _ c.as_slice.ensures.value c.as_slice-2.ensures.value
    (told _ (lists numbers) c.eq-device.ensures)))
    (told _ (lists numbers) c.eq-sio.ensures)))

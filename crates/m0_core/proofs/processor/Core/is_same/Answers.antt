use Rattle.std.proofs.Common.{refl}
use Rattle.rp_base.proofs.Exact.{numbers, flags, lists, options, both, whole, seen, told}
use Rattle.m0_core.proofs.Comparisons.{exact_regs, exact_work}
use Rattle.m0_core.proofs.processor.Core.is_same.Goals as goal

pub returns : goal.returns
returns c = seen _ c.self.view_is c.other.view_is
    (whole _
    (λ t. ((((((((t.number, t.asleep), t.regs), t.nvic), t.event), t.offer), t.work), t.beats_done), t.read))
    (λ p. record { number = p.0.0.0.0.0.0.0.0; asleep = p.0.0.0.0.0.0.0.1; regs = p.0.0.0.0.0.0.1; nvic = p.0.0.0.0.0.1; event = p.0.0.0.0.1; offer = p.0.0.0.1; work = p.0.0.1; beats_done = p.0.1; read = p.1 })
    (λ _. refl)
    (both _ _ (both _ _ (both _ _ (both _ _ (both _ _ (both _ _ (both _ _ (both _ _ (numbers _ _)
    (flags _ _))
    (told _ exact_regs c.eq-regs.ensures))
    c.is_same-nvic.ensures)
    (flags _ _))
    (flags _ _))
    (told _ (options exact_work) c.eq-work.ensures))
    (numbers _ _))
    (seen _ c.as_slice.ensures.value c.as_slice-2.ensures.value
    (told _ (lists numbers) c.eq-read.ensures))))

use Rattle.std.proofs.Common.{refl}
use Rattle.rp_base.proofs.Exact.{numbers, flags, lists, options, both, whole, seen, told}
use Rattle.rp_uart.proofs.Comparisons.{exact_errors, exact_received, exact_receiver, exact_sender, exact_line, exact_divisor, exact_control, exact_dma}
use Rattle.rp_uart.proofs.uart.Uart.is_same.Goals as goal

pub returns : goal.returns
returns c = seen _ c.self.view_is c.other.view_is
    (whole _
    (λ t. ((((((((((((((t.to_send, t.received), t.sender), t.receiver), t.waited), t.lost), t.last), t.overrun), t.divisor), t.line), t.control), t.dma), t.levels), t.mask), t.raw))
    (λ p. record { to_send = p.0.0.0.0.0.0.0.0.0.0.0.0.0.0; received = p.0.0.0.0.0.0.0.0.0.0.0.0.0.1; sender = p.0.0.0.0.0.0.0.0.0.0.0.0.1; receiver = p.0.0.0.0.0.0.0.0.0.0.0.1; waited = p.0.0.0.0.0.0.0.0.0.0.1; lost = p.0.0.0.0.0.0.0.0.0.1; last = p.0.0.0.0.0.0.0.0.1; overrun = p.0.0.0.0.0.0.0.1; divisor = p.0.0.0.0.0.0.1; line = p.0.0.0.0.0.1; control = p.0.0.0.0.1; dma = p.0.0.0.1; levels = p.0.0.1; mask = p.0.1; raw = p.1 })
    (λ _. refl)
    (both _ _ (both _ _ (both _ _ (both _ _ (both _ _ (both _ _ (both _ _ (both _ _ (both _ _ (both _ _ (both _ _ (both _ _ (both _ _ (both _ _ (seen _ c.as_slice.ensures.value c.as_slice-2.ensures.value
    (told _ (lists numbers) c.eq-to_send.ensures))
    (seen _ c.as_slice-3.ensures.value c.as_slice-4.ensures.value
    (told _ (lists exact_received) c.eq-received.ensures)))
    (told _ exact_sender c.eq-sender.ensures))
    (told _ exact_receiver c.eq-receiver.ensures))
    (told _ (options numbers) c.eq-waited.ensures))
    (flags _ _))
    (told _ exact_errors c.eq-last.ensures))
    (flags _ _))
    (told _ exact_divisor c.eq-divisor.ensures))
    (told _ exact_line c.eq-line.ensures))
    (told _ exact_control c.eq-control.ensures))
    (told _ exact_dma c.eq-dma.ensures))
    (numbers _ _))
    (numbers _ _))
    (numbers _ _)))

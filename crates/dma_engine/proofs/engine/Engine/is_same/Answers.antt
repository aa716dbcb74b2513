use Rattle.std.proofs.Common.{refl}
use Rattle.rp_base.proofs.Exact.{numbers, lists, options, both, whole, seen, told}
use Rattle.dma_engine.proofs.Comparisons.{exact_channel, exact_waiting, exact_timer, exact_line}
use Rattle.dma_engine.proofs.engine.Engine.is_same.Goals as goal

pub returns : goal.returns
returns c = seen _ c.self.view_is c.other.view_is
    (whole _
    (λ t. (((((((t.channels, t.chosen), t.last_chosen), t.waiting), t.raised), t.line_0), t.line_1), t.timers))
    (λ p. record { channels = p.0.0.0.0.0.0.0; chosen = p.0.0.0.0.0.0.1; last_chosen = p.0.0.0.0.0.1; waiting = p.0.0.0.0.1; raised = p.0.0.0.1; line_0 = p.0.0.1; line_1 = p.0.1; timers = p.1 })
    (λ _. refl)
    (both _ _ (both _ _ (both _ _ (both _ _ (both _ _ (both _ _ (both _ _ (told _ (lists exact_channel) c.eq-channels.ensures)
    (told _ (options numbers) c.eq-chosen.ensures))
    (numbers _ _))
    (seen _ c.as_slice.ensures.value c.as_slice-2.ensures.value
    (told _ (lists exact_waiting) c.eq-waiting.ensures)))
    (numbers _ _))
    (told _ exact_line c.eq-line_0.ensures))
    (told _ exact_line c.eq-line_1.ensures))
    (told _ (lists exact_timer) c.eq-timers.ensures)))

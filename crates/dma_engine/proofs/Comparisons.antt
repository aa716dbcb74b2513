-- The comparisons of the parts of the engine are true exactly where both are one.
use Rattle.std.proofs.Common.{refl}
use Rattle.rp_base.proofs.Exact.{IsExact, numbers, flags, pairs, parts, bare}
use Rattle.dma_engine.specs.contracts.channel.ChannelPartialEq.TheImpl as channel
use Rattle.dma_engine.specs.contracts.waiting.WaitingWritePartialEq.TheImpl as waiting
use Rattle.dma_engine.specs.contracts.timer.PacingTimerPartialEq.TheImpl as timer
use Rattle.dma_engine.specs.contracts.line.InterruptLinePartialEq.TheImpl as line
use Rattle.rp_base.specs.contracts.SizePartialEq.TheImpl as size
use Rattle.rp_base.specs.contracts.Size as the_size

pub exact_channel : IsExact channel.eq-value.it
exact_channel = parts (λ t. (t.read, (t.write, (t.count, (t.reload, (t.ctrl, (t.busy, (t.aborted, t.credits))))))))
    (λ p. record { read = p.0; write = p.1.0; count = p.1.1.0; reload = p.1.1.1.0; ctrl = p.1.1.1.1.0; busy = p.1.1.1.1.1.0; aborted = p.1.1.1.1.1.1.0; credits = p.1.1.1.1.1.1.1 }) (λ _. refl)
    (pairs numbers (pairs numbers (pairs numbers (pairs numbers (pairs numbers (pairs flags (pairs flags numbers)))))))

exact_size : IsExact size.eq-value.it
exact_size = bare the_size.enum tt

pub exact_waiting : IsExact waiting.eq-value.it
exact_waiting = parts (λ t. (t.channel, (t.address, (t.size, t.value))))
    (λ p. record { channel = p.0; address = p.1.0; size = p.1.1.0; value = p.1.1.1 }) (λ _. refl)
    (pairs numbers (pairs numbers (pairs exact_size numbers)))

pub exact_timer : IsExact timer.eq-value.it
exact_timer = parts (λ t. (t.x, (t.y, t.accumulator)))
    (λ p. record { x = p.0; y = p.1.0; accumulator = p.1.1 }) (λ _. refl)
    (pairs numbers (pairs numbers numbers))

pub exact_line : IsExact line.eq-value.it
exact_line = parts (λ t. (t.enable, t.force))
    (λ p. record { enable = p.0; force = p.1 }) (λ _. refl)
    (pairs numbers numbers)

-- The comparisons of the parts of a UART are true exactly where both are one.
use Rattle.std.proofs.Common.{refl}
use Rattle.rp_base.proofs.Exact.{IsExact, numbers, flags, pairs, parts, none, one, enums, bare}
use Rattle.rp_uart.specs.contracts.receiver.ErrorsPartialEq.TheImpl as errors
use Rattle.rp_uart.specs.contracts.receiver.ReceivedPartialEq.TheImpl as received
use Rattle.rp_uart.specs.contracts.receiver.HearingPartialEq.TheImpl as hearing
use Rattle.rp_uart.specs.contracts.receiver.ReceiverPartialEq.TheImpl as receiver
use Rattle.rp_uart.specs.contracts.sender.SendingPartialEq.TheImpl as sending
use Rattle.rp_uart.specs.contracts.sender.SenderPartialEq.TheImpl as sender
use Rattle.rp_uart.specs.contracts.frame.WordLengthPartialEq.TheImpl as width
use Rattle.rp_uart.specs.contracts.frame.LineControlPartialEq.TheImpl as line
use Rattle.rp_uart.specs.contracts.control.DivisorPartialEq.TheImpl as divisor
use Rattle.rp_uart.specs.contracts.control.ControlPartialEq.TheImpl as control
use Rattle.rp_uart.specs.contracts.control.DmaControlPartialEq.TheImpl as dma
use Rattle.rp_uart.specs.contracts.receiver.Receiver as the_receiver
use Rattle.rp_uart.specs.contracts.sender.Sender as the_sender
use Rattle.rp_uart.specs.contracts.frame.WordLength as the_width

pub exact_errors : IsExact errors.eq-value.it
exact_errors = parts (λ t. (t.framing, (t.parity, (t.break_line, t.overrun))))
    (λ p. record { framing = p.0; parity = p.1.0; break_line = p.1.1.0; overrun = p.1.1.1 }) (λ _. refl)
    (pairs flags (pairs flags (pairs flags flags)))

pub exact_received : IsExact received.eq-value.it
exact_received = parts (λ t. (t.byte, t.errors))
    (λ p. record { byte = p.0; errors = p.1 }) (λ _. refl)
    (pairs numbers exact_errors)

pub exact_hearing : IsExact hearing.eq-value.it
exact_hearing = parts (λ t. (t.samples, (t.bit, t.elapsed)))
    (λ p. record { samples = p.0; bit = p.1.0; elapsed = p.1.1 }) (λ _. refl)
    (pairs numbers (pairs numbers numbers))

pub exact_receiver : IsExact receiver.eq-value.it
exact_receiver = enums the_receiver.enum _ (none, (one exact_hearing, (none, tt)))

pub exact_sending : IsExact sending.eq-value.it
exact_sending = parts (λ t. (t.byte, (t.bit, t.elapsed)))
    (λ p. record { byte = p.0; bit = p.1.0; elapsed = p.1.1 }) (λ _. refl)
    (pairs numbers (pairs numbers numbers))

pub exact_sender : IsExact sender.eq-value.it
exact_sender = enums the_sender.enum _ (none, (one exact_sending, tt))

pub exact_width : IsExact width.eq-value.it
exact_width = bare the_width.enum tt

pub exact_line : IsExact line.eq-value.it
exact_line = parts (λ t. (t.parity, (t.even, (t.two_stops, (t.fifos, t.width)))))
    (λ p. record { parity = p.0; even = p.1.0; two_stops = p.1.1.0; fifos = p.1.1.1.0; width = p.1.1.1.1 }) (λ _. refl)
    (pairs flags (pairs flags (pairs flags (pairs flags exact_width))))

pub exact_divisor : IsExact divisor.eq-value.it
exact_divisor = parts (λ t. (t.integer, t.fraction))
    (λ p. record { integer = p.0; fraction = p.1 }) (λ _. refl)
    (pairs numbers numbers)

pub exact_control : IsExact control.eq-value.it
exact_control = parts (λ t. (t.enabled, (t.loopback, (t.transmit, t.receive))))
    (λ p. record { enabled = p.0; loopback = p.1.0; transmit = p.1.1.0; receive = p.1.1.1 }) (λ _. refl)
    (pairs flags (pairs flags (pairs flags flags)))

pub exact_dma : IsExact dma.eq-value.it
exact_dma = parts (λ t. (t.receive, t.transmit))
    (λ p. record { receive = p.0; transmit = p.1 }) (λ _. refl)
    (pairs flags flags)

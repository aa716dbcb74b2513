-- One cycle of a UART (PrimeCell UART PL011 Technical Reference Manual, DDI 0183, 2.4.3, UART operation: system and diagnostic
-- loopback testing, 2.7, DMA interface, and 3.3.14, UARTDMACR).
use Rattle.std.specs.Prelude.{ℕ, ◌-◌, Bool, nat_lt, if◌then◌else◌, List, [], ◌∷◌, length, Option, None}
use Rattle.rp_uart.specs.Interrupts.{depth_of}
use Rattle.rp_uart.specs.Receiver.{after_receiving}
use Rattle.rp_uart.specs.Sender.{level_of, after_sending, ended_byte}
use Rattle.rp_uart.specs.State.{State}

-- with an integer divisor of 0 nothing runs
abbrev pub is_running : State → Bool
is_running s = nat_lt 0 s.divisor.integer

abbrev pub output_of : State → Bool
output_of s = level_of s.sender s.line

-- with LBE the UART receives what it sends itself
abbrev pub heard_of : Bool → State → Bool
heard_of line s = if s.control.loopback then output_of s else line

abbrev pub after_step : Bool → State → State
after_step line s = if is_running s then after_receiving (heard_of line s) (after_sending s) else s

-- the byte whose frame ends in this cycle
abbrev pub sent_byte : State → Option ℕ
sent_byte s = if is_running s then ended_byte s.sender s else None

-- the free entries of the transmit FIFO and the words of the receive FIFO, each where the DMA engine is asked to move them
abbrev pub pacing_of : State → List ℕ
pacing_of s =
    (if s.dma.transmit then depth_of s - length s.to_send else 0) ∷ (if s.dma.receive then length s.received else 0) ∷ []

-- A UART between two cycles (RP2040 Datasheet, 4.2, UART; PrimeCell UART PL011 Technical Reference Manual, DDI 0183, 2.2,
-- functional description, and 3.3, register descriptions).
use Rattle.std.specs.Prelude.{ℕ, Bool, true, false, List, [], Option, None}
use Rattle.rp_uart.specs.declared.control.Control.{Control}
use Rattle.rp_uart.specs.declared.control.Divisor.{Divisor}
use Rattle.rp_uart.specs.declared.control.DmaControl.{DmaControl}
use Rattle.rp_uart.specs.declared.frame.LineControl.{LineControl}
use Rattle.rp_uart.specs.declared.frame.WordLength.TheVariants.{Five}
use Rattle.rp_uart.specs.declared.receiver.Errors.{Errors}
use Rattle.rp_uart.specs.declared.receiver.Received.{Received}
use Rattle.rp_uart.specs.declared.receiver.Receiver.{Receiver}
use Rattle.rp_uart.specs.declared.receiver.Receiver.TheVariants as receivers
use Rattle.rp_uart.specs.declared.sender.Sender.{Sender}
use Rattle.rp_uart.specs.declared.sender.Sender.TheVariants as senders

pub record State : Type 0 where
  -- the bytes that wait to be sent, the oldest first
  pub to_send : List ℕ
  -- the bytes that wait to be read, the oldest first, each with its errors
  pub received : List Received
  pub sender : Sender
  pub receiver : Receiver
  -- for how long no byte came and none was read, in quarters of a cycle; none where no byte waits or the timeout was told
  pub waited : Option ℕ
  -- a byte was lost since the last one that was stored
  pub lost : Bool
  -- the errors of the byte that was read last, and that a byte was lost, each until UARTECR is written
  pub last : Errors
  pub overrun : Bool
  -- UARTIBRD and UARTFBRD, UARTLCR_H, UARTCR, UARTDMACR
  pub divisor : Divisor
  pub line : LineControl
  pub control : Control
  pub dma : DmaControl
  -- the words UARTIFLS, UARTIMSC and UARTRIS
  pub levels : ℕ
  pub mask : ℕ
  pub raw : ℕ

abbrev pub no_errors : Errors
no_errors = record { framing = false; parity = false; break_line = false; overrun = false }

-- at reset both FIFOs are empty and the UART is disabled, but its two halves are not
abbrev pub at_reset : State
at_reset =
    record {
      to_send = [];
      received = [];
      sender = senders.Idle;
      receiver = receivers.Idle;
      waited = None;
      lost = false;
      last = no_errors;
      overrun = false;
      divisor = record { integer = 0; fraction = 0 };
      line = record { parity = false; even = false; two_stops = false; fifos = false; width = Five };
      control = record { enabled = false; loopback = false; transmit = true; receive = true };
      dma = record { receive = false; transmit = false };
      levels = 0x12;
      mask = 0;
      raw = 0;
    }

-- The state of the peripherals between two cycles: the timer, both UARTs, the pads and the device outside (RP2040 Datasheet,
-- 2.19, GPIO, 4.2, UART, and 4.6, Timer; the device is the project's own).
use Rattle.std.specs.Prelude.{ℕ, List, [], ◌∷◌, replicate}
use Rattle.rp_base.specs.Word.{has_bit}
use Rattle.rp_base.specs.ResetBits.{IO_BANK0, PADS_BANK0, TIMER, UART0, UART1}
use Rattle.rp_base.specs.declared.resettable.Resettable.{Resettable}
use Rattle.rp_base.specs.Resettable.{let_go, with_held}
use Rattle.lane_look.specs.Device.{DeviceMeaning}
use Rattle.io_bank.specs.State.{State as Bank}
use Rattle.io_bank.specs.State as bank
use Rattle.rp_uart.specs.State.{State as SerialPort}
use Rattle.rp_uart.specs.State as uart
use Rattle.rp_timer.specs.State.{State as TimerState}
use Rattle.rp_timer.specs.State as timer

pub record State : Type 0 where
  -- the timer and the UARTs, with the copies of their bits of RESETS
  pub timer : Resettable TimerState
  pub uart0 : Resettable SerialPort
  pub uart1 : Resettable SerialPort
  pub pads : Bank
  -- the interrupt lines of the device, as it drove them in the last cycle
  pub irq : ℕ
  -- the device's words
  pub device : List ℕ
  -- the levels and the enables that SIO puts out
  pub sio : List ℕ

-- every block is out of reset; the device has these words
abbrev pub outer_at_start : List ℕ → State
outer_at_start words = record {
  timer = let_go timer.at_reset;
  uart0 = let_go uart.at_reset;
  uart1 = let_go uart.at_reset;
  pads = bank.at_reset;
  irq = 0;
  device = words;
  sio = 0 ∷ 0 ∷ [];
}

-- the words of a device before its first cycle: what its start leaves of words that are all 0
abbrev pub first_words : DeviceMeaning → List ℕ
first_words d = d.first (replicate d.count 0)

-- ---- the bits of RESETS (RP2040 Datasheet, 2.14, Subsystem Resets)

-- a block whose bit is set is in its reset state and is held there
unfoldable pub outer_reset : ℕ → State → State
outer_reset w s = record s {
  timer = with_held (has_bit w TIMER) timer.at_reset s.timer;
  uart0 = with_held (has_bit w UART0) uart.at_reset s.uart0;
  uart1 = with_held (has_bit w UART1) uart.at_reset s.uart1;
  pads = bank.after_held (has_bit w IO_BANK0) (has_bit w PADS_BANK0) s.pads;
}

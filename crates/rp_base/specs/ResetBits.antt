-- The bits of RESETS by their blocks (RP2040 Datasheet, 2.14.3, List of Registers, RESET).
use Rattle.std.specs.Prelude.{ℕ}

-- the DMA engine
abbrev pub DMA : ℕ
DMA = 2

-- the functions and interrupts of the pins
abbrev pub IO_BANK0 : ℕ
IO_BANK0 = 5

-- the pads
abbrev pub PADS_BANK0 : ℕ
PADS_BANK0 = 8

-- PIO block 0
abbrev pub PIO0 : ℕ
PIO0 = 10

-- PIO block 1
abbrev pub PIO1 : ℕ
PIO1 = 11

-- the timer
abbrev pub TIMER : ℕ
TIMER = 21

-- UART 0
abbrev pub UART0 : ℕ
UART0 = 22

-- UART 1
abbrev pub UART1 : ℕ
UART1 = 23

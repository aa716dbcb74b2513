-- The numbers of the exceptions (ARMv6-M Architecture Reference Manual, B1.5.2, Exception number definition).
use Rattle.std.specs.Prelude.{ℕ}

-- the non-maskable interrupt
abbrev pub NMI : ℕ
NMI = 2

-- A fault
abbrev pub HARDFAULT : ℕ
HARDFAULT = 3

-- the supervisor call
abbrev pub SVCALL : ℕ
SVCALL = 11

-- the pendable service call
abbrev pub PENDSV : ℕ
PENDSV = 14

-- the system timer
abbrev pub SYSTICK : ℕ
SYSTICK = 15

-- interrupt 0; interrupt n is n above it
abbrev pub INTERRUPT_0 : ℕ
INTERRUPT_0 = 16

-- how many exception numbers there are: 16 of the system and 32 interrupts
abbrev pub NUMBERS : ℕ
NUMBERS = 48

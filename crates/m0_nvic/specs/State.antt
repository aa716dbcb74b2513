-- The exceptions of a core as sets (ARMv6-M Architecture Reference Manual, B1.5.2 and B3.4): an exception has a number,
-- Reset 1, NMI 2, HardFault 3, SVCall 11, PendSV 14, SysTick 15, and 16 + n for interrupt n.
use Rattle.std.specs.Prelude.{ℕ, ◌+◌, ◌^◌, Bool, false, List, replicate}
use Rattle.m0_nvic.specs.Exceptions.{NMI, HARDFAULT, SVCALL, PENDSV, SYSTICK}
use Rattle.m0_nvic.specs.declared.systick.SysTick.{SysTick}

-- a set of exceptions is a number whose bit n tells whether exception n is in it
pub record State : Type 0 where
  pub pending : ℕ
  pub active : ℕ
  pub enabled : ℕ
  -- the priority of each exception by its number
  pub priorities : List ℕ
  -- the interrupt lines that were high in the cycle before, by bits
  pub lines : ℕ
  -- an exception became pending since the end of the last cycle
  pub arrived : Bool
  pub systick : SysTick
  -- the words VTOR and SCR (B3.2.5 and B3.2.7)
  pub vtor : ℕ
  pub scr : ℕ

abbrev pub timer_at_reset : SysTick
timer_at_reset =
    record { enable = false; interrupt = false; core_clock = false; counted = false; reload = 0; current = 0 }

-- at reset the system's exceptions alone are enabled, which always are: NMI, HardFault, SVCall, PendSV and SysTick
abbrev pub at_reset : State
at_reset =
    record {
      pending = 0;
      active = 0;
      enabled = 2 ^ NMI + 2 ^ HARDFAULT + 2 ^ SVCALL + 2 ^ PENDSV + 2 ^ SYSTICK;
      priorities = replicate 48 0;
      lines = 0;
      arrived = false;
      systick = timer_at_reset;
      vtor = 0;
      scr = 0;
    }

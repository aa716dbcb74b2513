-- A machine at reset and at a restart (RP2040 Datasheet, 3.7: CTRL, and the reset values of the registers).
use Rattle.std.specs.Prelude.{false, [], None}
use Rattle.pio_machine.specs.declared.machine.Machine1.{Machine1}
use Rattle.pio_machine.specs.declared.machine.Done.{Done}
use Rattle.pio_machine.specs.Progress.{untried}

-- an empty OSR counts as shifted out by 32 bits
abbrev pub at_reset : Machine1
at_reset =
    record {
      enabled = false;
      clkdiv = 0x00010000;
      execctrl = 0x0001F000;
      shiftctrl = 0x000C0000;
      pinctrl = 0x14000000;
      acc = 0;
      x = 0;
      y = 0;
      isr = 0;
      isr_count = 0;
      osr = 0;
      osr_count = 32;
      pc = 0;
      delay = 0;
      waiting = None;
      progress = untried;
      tx = [];
      rx = [];
      tx_stall = false;
      rx_stall = false;
    }

-- SM_RESTART: both shift counts, the ISR, the delay, the waiting word, and what the word at PC has done
abbrev pub restarted : Machine1 → Machine1
restarted m = record m {
  isr = 0;
  isr_count = 0;
  osr_count = 32;
  delay = 0;
  waiting = None;
  progress = untried;
}

-- a cycle begins with no writes
abbrev pub nothing_done : Done
nothing_done = record { levels = 0; level_mask = 0; enables = 0; enable_mask = 0; set = 0; clear = 0 }

-- A core before its first instruction (ARMv6-M Architecture Reference Manual, B1.5.5, reset behavior; RP2040 Datasheet,
-- 2.8.2, how the second core is started with a vector table, a stack pointer and an entry).
use Rattle.std.specs.Prelude.{ℕ, ◌-◌, ◌*◌, ◌/◌, ◌^◌, Bool, true, false, [], None, replicate}
use Rattle.rp_base.specs.Word.{has_bit}
use Rattle.m0_beats.specs.declared.registers.Regs.{Regs}
use Rattle.m0_nvic.specs.State.{State as Exceptions, at_reset}
use Rattle.m0_core.specs.State.{State}

-- registers and flags that are 0, but for MSP, LR, PC and T
abbrev pub clear_registers : ℕ → ℕ → ℕ → Bool → Regs
clear_registers sp lr pc t = record {
  r = replicate 13 0;
  msp = sp;
  psp = 0;
  lr = lr;
  pc = pc;
  n = false;
  z = false;
  c = false;
  v = false;
  t = t;
  ipsr = 0;
  primask = false;
  spsel = false;
}

-- a core that was not started
abbrev pub sleeping : ℕ → State
sleeping number = record {
  number = number;
  asleep = true;
  regs = clear_registers 0 0 0 false;
  nvic = at_reset;
  event = false;
  offer = false;
  work = None;
  beats_done = 0;
  read = [];
}

-- no exception is pending or active; the vector table is a multiple of 256
abbrev pub with_vectors : ℕ → Exceptions
with_vectors vtor = record at_reset { vtor = vtor / 2 ^ 8 * 2 ^ 8 }

-- the core starts at an entry whose bit 0 is T; the stack is a multiple of 4
abbrev pub started : ℕ → ℕ → ℕ → State → State
started vtor sp entry s = record s {
  asleep = false;
  regs = clear_registers (sp / 4 * 4) (2 ^ 32 - 1) (entry / 2 * 2) (has_bit entry 0);
  nvic = with_vectors vtor;
  event = false;
  work = None;
  beats_done = 0;
  read = [];
}

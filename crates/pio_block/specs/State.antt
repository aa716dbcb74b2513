-- A PIO block (RP2040 Datasheet, 3.2 and 3.7): four machines, the instruction memory and the interrupt flags that they share,
-- and the levels and enables of the pins that they have written.
use Rattle.std.specs.Prelude.{ℕ, zero, suc, ◌+◌, ◌-◌, ◌^◌, Bool, ◌||◌, List, [], ◌∷◌, bit_and, replicate, slice_index_or}
use Rattle.std.specs.List.{list_any}
use Rattle.pio_machine.specs.declared.machine.Machine1.{Machine1}
use Rattle.pio_machine.specs.Quiet.{is_forced}
use Rattle.pio_machine.specs.Start as machine

pub record State : Type 0 where
  pub machines : List Machine1
  -- the words of the instruction memory
  pub memory : List ℕ
  -- the eight interrupt flags, flag 0 in bit 0
  pub flags : ℕ
  -- INPUT_SYNC_BYPASS
  pub bypass : ℕ
  -- what was written to the pins last, pin 0 in bit 0
  pub levels : ℕ
  pub enables : ℕ
  -- TXOVER and RXUNDER of FDEBUG, machine 0 in bit 0
  pub tx_over : ℕ
  pub rx_under : ℕ
  -- the enabled and the forced interrupts of both lines
  pub inte0 : ℕ
  pub intf0 : ℕ
  pub inte1 : ℕ
  pub intf1 : ℕ

abbrev pub at_reset : State
at_reset =
    record {
      machines = replicate 4 machine.at_reset;
      memory = replicate 32 0;
      flags = 0;
      bypass = 0;
      levels = 0;
      enables = 0;
      tx_over = 0;
      rx_under = 0;
      inte0 = 0;
      intf0 = 0;
      inte1 = 0;
      intf1 = 0;
    }

-- ---- the machines by their numbers

abbrev pub machine_of : ℕ → List Machine1 → Machine1
machine_of n ms = slice_index_or ms n machine.at_reset

abbrev pub changed : ℕ → (Machine1 → Machine1) → List Machine1 → List Machine1
changed n f [] = []
changed zero f (m ∷ ms) = f m ∷ ms
changed (suc n) f (m ∷ ms) = m ∷ changed n f ms

-- a function of its number changes each machine
abbrev pub each_from : ℕ → (ℕ → Machine1 → Machine1) → List Machine1 → List Machine1
each_from n f [] = []
each_from n f (m ∷ ms) = f n m ∷ each_from (n + 1) f ms

abbrev pub each : (ℕ → Machine1 → Machine1) → List Machine1 → List Machine1
each f ms = each_from 0 f ms

abbrev pub with_machines : List Machine1 → State → State
with_machines ms s = record s { machines = ms }

-- ---- what is asked of the pins

abbrev pub is_running : Machine1 → Bool
is_running m = m.enabled || is_forced m.waiting

-- the block steps: a machine is enabled, or a written word waits
abbrev pub is_busy : State → Bool
is_busy s = list_any is_running s.machines

-- ---- sets of bits

-- a byte without the bits of another one
abbrev pub without : ℕ → ℕ → ℕ
without byte other = bit_and byte (2 ^ 8 - 1 - other)

-- The state of the machine without the words of SRAM, and the two ways between them (the project's own).
use Rattle.std.specs.Prelude.{ℕ, List}
use Rattle.rp_base.specs.declared.resettable.Resettable.{Resettable}
use Rattle.m0_core.specs.State.{State as Core}
use Rattle.dma_engine.specs.State.{State as Engine}
use Rattle.pio_block.specs.State.{State as Pio}
use Rattle.outer_lane.specs.State.{State as OuterState}
use Rattle.sio_block.specs.State.{State as SioState}
use Rattle.bus_fabric.specs.State.{State as Crossbar}
use Rattle.rp_machine.specs.State.{State}

pub record RestState : Type 0 where
  -- the number of the cycle that is next
  pub cycle : ℕ
  pub core0 : Core
  pub core1 : Core
  pub dma : Resettable Engine
  pub pio0 : Resettable Pio
  pub pio1 : Resettable Pio
  pub outer : OuterState
  pub sio : SioState
  pub fabric : Crossbar
  pub resets : List ℕ

-- a state without its SRAM
abbrev pub rest_of : State → RestState
rest_of s = record {
  cycle = s.cycle;
  core0 = s.core0;
  core1 = s.core1;
  dma = s.dma;
  pio0 = s.pio0;
  pio1 = s.pio1;
  outer = s.outer;
  sio = s.sio;
  fabric = s.fabric;
  resets = s.resets;
}

-- the state that has these words of SRAM and this rest
abbrev pub state_with : List ℕ → RestState → State
state_with sram r = record {
  cycle = r.cycle;
  sram = sram;
  core0 = r.core0;
  core1 = r.core1;
  dma = r.dma;
  pio0 = r.pio0;
  pio1 = r.pio1;
  outer = r.outer;
  sio = r.sio;
  fabric = r.fabric;
  resets = r.resets;
}

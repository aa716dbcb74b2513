-- The state of the machine between two cycles, and the first one (RP2040 Datasheet, 2.14, Subsystem Resets, and 2.8.2, how
-- the second core is started; how core 0 starts is the project's own).
use Rattle.std.specs.Prelude.{ℕ, List, [], ◌∷◌, bit_or}
use Rattle.rp_base.specs.declared.resettable.Resettable.{Resettable}
use Rattle.rp_base.specs.Resettable.{let_go}
use Rattle.lane_look.specs.Device.{DeviceMeaning}
use Rattle.uf2_image.specs.declared.parts.Image.{Image}
use Rattle.m0_core.specs.State.{State as Core}
use Rattle.m0_core.specs.Start.{sleeping, started}
use Rattle.dma_engine.specs.State.{State as Engine}
use Rattle.dma_engine.specs.State as dma
use Rattle.pio_block.specs.State.{State as Pio}
use Rattle.pio_block.specs.State as pio
use Rattle.outer_lane.specs.State.{State as OuterState, outer_at_start, first_words}
use Rattle.sio_block.specs.State.{State as SioState}
use Rattle.sio_block.specs.State as sio
use Rattle.bus_fabric.specs.State.{State as Crossbar}
use Rattle.bus_fabric.specs.State as fabric
use Rattle.rp_machine.specs.Loading.{loaded_sram}

pub record State : Type 0 where
  -- the number of the cycle that is next
  pub cycle : ℕ
  -- the words of SRAM
  pub sram : List ℕ
  pub core0 : Core
  pub core1 : Core
  pub dma : Resettable Engine
  pub pio0 : Resettable Pio
  pub pio1 : Resettable Pio
  -- the timer, both UARTs, the pads and the words of the device
  pub outer : OuterState
  pub sio : SioState
  pub fabric : Crossbar
  -- the words RESET and WDSEL
  pub resets : List ℕ

-- core 0 before its first instruction, in Thumb state, with its stack at the end of SRAM
abbrev pub first_core : ℕ → Core
first_core entry = started 0 0x20042000 (bit_or entry 1) (sleeping 0)

-- SRAM holds the image and is 0 elsewhere, core 0 begins at the image's entry, core 1 is asleep, each block is out of reset
-- with its reset values, and the device has started
unfoldable pub first_state : DeviceMeaning → Image → State
first_state device image = record {
  cycle = 0;
  sram = loaded_sram image.parts;
  core0 = first_core image.entry;
  core1 = sleeping 1;
  dma = let_go dma.at_reset;
  pio0 = let_go pio.at_reset;
  pio1 = let_go pio.at_reset;
  outer = outer_at_start (first_words device);
  sio = sio.at_reset;
  fabric = fabric.at_reset;
  resets = 0 ∷ 0 ∷ [];
}

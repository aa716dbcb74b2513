-- The copies in lanes and beside them of other parts: the bits of RESETS that hold a block in its reset state (RP2040 Datasheet,
-- 2.14.3), the levels and enables that SIO puts out (2.3.1.2), and whether the launcher has a word for core 1 (2.8.2).
use Rattle.std.specs.Prelude.{◌≡◌, ◌<◌, ◌^◌, ℕ, Bool, List, [], ◌∷◌, slice_index}
use Rattle.rp_base.specs.Word.{has_bit}
use Rattle.rp_base.specs.ResetBits.{DMA, IO_BANK0, PADS_BANK0, PIO0, PIO1}
use Rattle.m0_core.specs.State.{State as Core}
use Rattle.outer_lane.specs.State.{State as OuterState}
use Rattle.outer_lane.specs.Quiet as peripherals
use Rattle.sio_block.specs.State.{State as SioState}
use Rattle.sio_block.specs.Launcher.{offers_of}
use Rattle.rp_machine.specs.State.{State}

-- the bits of RESET that hold a block
abbrev pub held_by : ℕ → List Bool
held_by reset =
    has_bit reset DMA ∷ has_bit reset IO_BANK0 ∷ has_bit reset PADS_BANK0 ∷ has_bit reset PIO0 ∷ has_bit reset PIO1
    ∷ peripherals.held_by reset

-- the copies of these bits: those beside the DMA engine and the PIO blocks, and those in the peripherals
abbrev pub held_of : Bool → Bool → Bool → OuterState → List Bool
held_of dma pio0 pio1 outer = dma ∷ outer.pads.bank_held ∷ outer.pads.pads_held ∷ pio0 ∷ pio1 ∷ peripherals.held_blocks outer

-- each copy is what RESET, which has 25 bits, and SIO hold
pub record Agree (reset : ℕ) (core1 : Core) (dma pio0 pio1 : Bool) (outer : OuterState) (sio : SioState) : Type 0 where
  pub bits : reset < 2 ^ 25
  pub held : held_of dma pio0 pio1 outer ≡ held_by reset
  pub pins : outer.sio ≡ sio.pins.out ∷ sio.pins.enable ∷ []
  pub offer : core1.offer ≡ offers_of sio

abbrev pub CopiesAgree : State → Type 0
CopiesAgree s = Agree (slice_index s.resets 0) s.core1 s.dma.held s.pio0.held s.pio1.held s.outer s.sio

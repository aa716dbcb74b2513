-- What each part of a cycle leaves of the copies that lanes keep: they agree as before.
use Rattle.std.proofs.Common.{◌≡◌, ◌<◌, ◌^◌, ℕ, Bool, List, Option, refl, ◌∙◌}
use Rattle.rp_machine.proofs.Shared.{Block, SameCopies, SeenOutputs, Setting, Turn, access_leaves, device_leaves, has_bit, offers_of, outer_accessed, pads_reset, pins_of}
use Rattle.rp_base.specs.ResetBits.{DMA, IO_BANK0, PADS_BANK0, PIO0, PIO1}
use Rattle.m0_core.specs.State.{State as Core}
use Rattle.m0_core.specs.declared.doing.Doing.{Doing as CoreDoing}
use Rattle.m0_core.specs.Cycle as core_steps
use Rattle.outer_lane.specs.State.{State as OuterState, outer_reset}
use Rattle.outer_lane.specs.Step as outer_steps
use Rattle.outer_lane.specs.Device.{device_accessed}
use Rattle.sio_block.specs.State.{State as SioState}
use Rattle.rp_machine.specs.Copies.{Agree}
use Rattle.rp_machine.proofs.HeldLanes.{outer_next, core_next}

-- ---- one part has changed

with_outer : {reset : ℕ} {core1 : Core} {dma pio0 pio1 : Bool} {outer after : OuterState} {sio : SioState}
    → SameCopies outer after → Agree reset core1 dma pio0 pio1 outer sio → Agree reset core1 dma pio0 pio1 after sio
with_outer h a = record {
  bits = a.bits;
  held = rw (h.bank, h.pads, h.blocks) a.held;
  pins = h.sio ∙ a.pins;
  offer = a.offer;
}

-- ---- accesses

-- the bits of the DMA engine and of the PIO blocks are as before
pub bits_agree : {reset : ℕ} {core1 : Core} {dma pio0 pio1 dma_after pio0_after pio1_after : Bool} {outer : OuterState} {sio : SioState}
    → dma_after ≡ dma → pio0_after ≡ pio0 → pio1_after ≡ pio1
    → Agree reset core1 dma pio0 pio1 outer sio → Agree reset core1 dma_after pio0_after pio1_after outer sio
bits_agree d p q a = rw (d, p, q) a

pub outer_agrees : {reset : ℕ} {core1 : Core} {dma pio0 pio1 : Bool} {outer after : OuterState} {sio : SioState} (block : Block) (offset : ℕ) (write : Option ℕ)
    → after ≡ outer_accessed block offset write outer
    → Agree reset core1 dma pio0 pio1 outer sio → Agree reset core1 dma pio0 pio1 after sio
outer_agrees {reset} {core1} {dma} {pio0} {pio1} {outer} {after} {sio} block offset write e a =
    rw e (with_outer (access_leaves block offset write outer).copies a)

pub device_agrees : {reset : ℕ} {core1 : Core} {dma pio0 pio1 : Bool} {outer after : OuterState} {sio : SioState} (w : Setting) (address : ℕ) (write : Option ℕ)
    → after ≡ device_accessed w address write outer
    → Agree reset core1 dma pio0 pio1 outer sio → Agree reset core1 dma pio0 pio1 after sio
device_agrees {reset} {core1} {dma} {pio0} {pio1} {outer} {after} {sio} w address write e a =
    rw e (with_outer (device_leaves w address write outer).copies a)

-- ---- RESETS

pub reset_agrees : (w : ℕ) (core1 : Core) (outer : OuterState) (sio : SioState)
    → w < 2 ^ 25
    → outer.sio ≡ pins_of sio
    → core1.offer ≡ offers_of sio
    → Agree w core1 (has_bit w DMA) (has_bit w PIO0) (has_bit w PIO1) (outer_reset w outer) sio
unfolding outer_reset
reset_agrees w core1 outer sio bits pins offer =
    let bank = pads_reset (has_bit w IO_BANK0) (has_bit w PADS_BANK0) outer.pads in
    record { bits = bits; held = rw (bank.0, bank.1) refl; pins = pins; offer = offer }

-- ---- a step of core 1

pub step_agrees : {reset : ℕ} {core1 : Core} {dma pio0 pio1 : Bool} {outer : OuterState} {sio : SioState} (begun : CoreDoing) (turns : List Turn)
    → Agree reset core1 dma pio0 pio1 outer sio → Agree reset (core_steps.next core1 begun turns) dma pio0 pio1 outer sio
step_agrees {reset} {core1} begun turns a =
    record { bits = a.bits; held = a.held; pins = a.pins; offer = (core_next core1 begun turns core1.offer (record { is = refl })).is ∙ a.offer }

-- ---- a step of the peripherals

pub outer_step_agrees : {reset : ℕ} {core1 : Core} {dma pio0 pio1 : Bool} {outer after : OuterState} {sio : SioState} (w : Setting) (seen : SeenOutputs)
    → after ≡ outer_steps.next w outer seen
    → Agree reset core1 dma pio0 pio1 outer sio → Agree reset core1 dma pio0 pio1 after sio
outer_step_agrees {reset} {core1} {dma} {pio0} {pio1} {outer} {after} {sio} w seen e a =
    rw e (with_outer (outer_next w outer seen) a)

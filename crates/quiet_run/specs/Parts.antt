-- Where each part of the machine is quiet for so many cycles, and where each has gone then.
use Rattle.std.specs.Prelude.{◌≡◌, ℕ, ◌+◌, ◌≤◌, false, None}
use Rattle.rp_base.specs.Resettable.{with_block}
use Rattle.lane_look.specs.Times.{times}
use Rattle.m0_core.specs.Begins.{begins}
use Rattle.m0_core.specs.Quiet as core
use Rattle.bus_fabric.specs.State.{has_hold}
use Rattle.dma_engine.specs.Quiet.{GivesNone}
use Rattle.sio_block.specs.Cycle.{after_cycle}
use Rattle.sio_block.specs.Launcher.{offers_of}
use Rattle.outer_lane.specs.Quiet as outer
use Rattle.outer_lane.specs.declared.world.SeenOutputs.{SeenOutputs}
use Rattle.outer_lane.specs.Setting.{Setting}
use Rattle.rp_machine.specs.State.{State}
use Rattle.rp_machine.specs.Alone.{AreBlocksQuiet, blocks_after, IsCore1Quiet, core1_after}
use Rattle.rp_machine.specs.Answers.{lines_of}
use Rattle.rp_machine.specs.Copies.{CopiesAgree}
use Rattle.rp_machine.specs.Cycle.{begun}
use Rattle.rp_machine.specs.Inward.{GoesAlone}
use Rattle.rp_machine.specs.Run.{states}
use Rattle.rp_machine.specs.Quiet.{IsQuiet}

-- each core waits, and the DMA engine, PIO and the peripherals are quiet for so many cycles, SIO is quiet, and no access lasts
pub record ArePartsQuiet (w : Setting) (s : State) (n : ℕ) : Type 0 where
  pub core0 : core.IsQuiet (lines_of 0 s) s.core0 s.cycle n
  pub core1 : IsCore1Quiet s n
  pub peripherals : outer.IsQuiet w (begun s).outer s.outer n
  pub blocks : AreBlocksQuiet s n
  pub sio : after_cycle s.sio ≡ s.sio
  pub launcher : offers_of s.sio ≡ false
  pub fabric : has_hold s.fabric ≡ false
  pub limit : s.cycle + n ≤ w.limit

-- core 0 may go on alone for so many cycles, from the one on in which the peripherals see this: the other lanes are quiet
pub record MayGoAlone (w : Setting) (seen : SeenOutputs) (s : State) (n : ℕ) : Type 0 where
  pub goes : GoesAlone s
  pub blocks : AreBlocksQuiet s n
  pub core1 : IsCore1Quiet s n
  pub same : seen ≡ (begun s).outer
  pub quiet : outer.IsQuiet w seen s.outer n
  pub limit : s.cycle + n ≤ w.limit

-- the lanes beside core 0 may be brought up by so many cycles, from the one on in which this is seen
pub record MayBringUp (w : Setting) (seen : SeenOutputs) (s : State) (n : ℕ) : Type 0 where
  pub dma : GivesNone s.dma.block n
  pub core1 : core.IsQuiet (lines_of 1 s) s.core1 seen.cycle n
  pub peripherals : outer.IsQuiet w seen s.outer n

-- of these, what is not counted in cycles
pub record AreOthersQuiet (s : State) : Type 0 where
  pub sio : after_cycle s.sio ≡ s.sio
  pub launcher : offers_of s.sio ≡ false
  pub fabric : has_hold s.fabric ≡ false

-- the state in which each part has gone so many cycles on its own
abbrev pub passed : Setting → State → ℕ → State
passed w s n = record s {
  cycle = s.cycle + n;
  core0 = times (core.rested (lines_of 0 s)) s.cycle n s.core0;
  core1 = core1_after s.cycle n s;
  dma = with_block s.dma (blocks_after n s).dma;
  pio0 = with_block s.pio0 (blocks_after n s).pio0;
  pio1 = with_block s.pio1 (blocks_after n s).pio1;
  outer = outer.outer_after w (begun s).outer n s.outer;
}

-- SRAM is as it was, and no core begins an instruction
pub record HasNoWork (old new : State) : Type 0 where
  pub sram : new.sram ≡ old.sram
  pub core0 : begins new.core0 ≡ None
  pub core1 : begins new.core1 ≡ None

-- where the parts are quiet for so many cycles, each goes them on its own, and the rest stays
pub record GoTheirOwnWay (w : Setting) (s : State) (n : ℕ) : Type 0 where
  pub state : states w s n ≡ passed w s n
  pub quiet : IsQuiet w s n

abbrev pub QuietPartsGoTheirOwnWay : Type 0
QuietPartsGoTheirOwnWay = (w : Setting) (s : State) (n : ℕ) → CopiesAgree s → ArePartsQuiet w s n → GoTheirOwnWay w s n

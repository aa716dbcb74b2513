-- A report is accepted for a state exactly where it is the lane's run alone there. The project's own.
use Rattle.std.specs.Prelude.{ℕ}
use Rattle.lane_look.specs.declared.replay.Report.{Report}
use Rattle.lane_look.specs.Replay.{Meaning}
use Rattle.lane_look.specs.Truth.{IsTrue}
use Rattle.m0_core.specs.State.{State as Core}
use Rattle.dma_engine.specs.State.{State as Engine}
use Rattle.pio_block.specs.State.{State as Pio}
use Rattle.outer_lane.specs.Setting.{Setting}
use Rattle.outer_lane.specs.State.{State as OuterState}
use Rattle.rp_machine.specs.State.{State}
use Rattle.window_merge.specs.Lanes.{core_lane, dma_lane, pio_lane, peripheral_lane}
use Rattle.window_merge.specs.Merging.{IsRunAlone}
use Rattle.window_runner.specs.Reports.{IsAccepted}

-- of a true report
pub record IsOne {S B : Type 0} (m : Meaning (Unit {0}) S B) (lane : ℕ) (before : S) (s : State) (bound : ℕ) (report : Report S) : Type 0 where
  pub then_alone : IsAccepted m lane before s bound report → IsRunAlone m lane before s bound report
  pub then_accepted : IsRunAlone m lane before s bound report → IsAccepted m lane before s bound report

pub record AreOne (w : Setting) (s : State) (bound : ℕ) : Type 0 where
  pub core0 : (report : Report Core) → IsTrue core_lane tt report → IsOne core_lane 0 s.core0 s bound report
  pub core1 : (report : Report Core) → IsTrue core_lane tt report → IsOne core_lane 1 s.core1 s bound report
  pub dma : (report : Report Engine) → IsTrue dma_lane tt report → IsOne dma_lane 2 s.dma.block s bound report
  pub pio0 : (report : Report Pio) → IsTrue pio_lane tt report → IsOne pio_lane 3 s.pio0.block s bound report
  pub pio1 : (report : Report Pio) → IsTrue pio_lane tt report → IsOne pio_lane 4 s.pio1.block s bound report
  pub outer : (report : Report OuterState) → IsTrue (peripheral_lane w) tt report → IsOne (peripheral_lane w) 5 s.outer s bound report

abbrev pub WhatIsAcceptedIsTheRunAlone : Type 0
WhatIsAcceptedIsTheRunAlone = (w : Setting) (s : State) (bound : ℕ) → AreOne w s bound

-- One cycle of a window, by what is left of the logs of the six runs. The project's own.
use Rattle.std.specs.Prelude.{◌≡◌, ℕ, zero, suc, ◌+◌, Some, None, true, ◌==◌, not, ◌||◌, Bool, false, List, [], ◌∷◌, ◌++◌}
use Rattle.lane_look.specs.declared.lane.Want.{Want}
use Rattle.lane_look.specs.declared.marks.Mark.{Mark}
use Rattle.lane_look.specs.declared.replay.Report.{Report}
use Rattle.lane_look.specs.Replay.{Meaning, told, left, talk}
use Rattle.lane_look.specs.Alone.{alone, alone_length, differs}
use Rattle.m0_core.specs.Fetch as core_asks
use Rattle.m0_core.specs.Cycle as core
use Rattle.dma_engine.specs.Asks as dma_asks
use Rattle.dma_engine.specs.Cycle as dma
use Rattle.pio_block.specs.Cycle as pio
use Rattle.outer_lane.specs.Setting.{Setting}
use Rattle.outer_lane.specs.Step as outer
use Rattle.rp_machine.specs.declared.begun.Begun.{Begun}
use Rattle.rp_machine.specs.State.{State}
use Rattle.rp_machine.specs.Answers.{answer_of}
use Rattle.rp_machine.specs.Cycle.{stop, next, mark}
use Rattle.rp_machine.specs.Run.{states}
use Rattle.window_merge.specs.declared.runs.Runs.{Runs}
use Rattle.window_merge.specs.declared.runs.Rests.{Rests}
use Rattle.window_merge.specs.Lanes.{around, core_lane, dma_lane, pio_lane, peripheral_lane, core1_bound}
use Rattle.window_merge.specs.declared.position.Moved.{Moved}
use Rattle.window_merge.specs.declared.position.Moved.TheVariants as moved
use Rattle.window_merge.specs.Window.{longest, clash, is_tried, window_length}

-- a report is the run alone of a lane, of at most so many cycles
pub record IsRunAlone {S B : Type 0} (m : Meaning (Unit {0}) S B) (lane : ℕ) (before : S) (s : State) (bound : ℕ) (report : Report S) : Type 0 where
  pub same_start : report.start ≡ s.cycle
  pub same_lane : report.before ≡ before
  pub same_length : report.length ≡ alone_length m (around lane) tt before s.cycle s bound
  pub same_log : report.log ≡ (alone m (around lane) tt before s.cycle s report.length).talk

-- what the lanes begin, where the logs answer
abbrev pub begun_by : Rests → State → Begun
begun_by rests s = record {
  core0 = told rests.core0 (core_asks.asks s.core0 s.cycle);
  core1 = told rests.core1 (core_asks.asks s.core1 s.cycle);
  dma = told rests.dma (dma_asks.asks s.dma.block);
  pio0 = told rests.pio0 (pio.asks s.pio0.block);
  pio1 = told rests.pio1 (pio.asks s.pio1.block);
  outer = told rests.outer (outer.asks s.outer s.cycle);
}

-- what is left of the logs then
abbrev pub left_by : Rests → State → Rests
left_by rests s = record {
  core0 = left rests.core0 (core_asks.asks s.core0 s.cycle);
  core1 = left rests.core1 (core_asks.asks s.core1 s.cycle);
  dma = left rests.dma (dma_asks.asks s.dma.block);
  pio0 = left rests.pio0 (pio.asks s.pio0.block);
  pio1 = left rests.pio1 (pio.asks s.pio1.block);
  outer = left rests.outer (outer.asks s.outer s.cycle);
}

-- some answer of a log is not the one that the machine gives
abbrev pub differs_by : Rests → State → Bool
differs_by rests s =
    differs (answer_of 0 s) (talk rests.core0 (core_asks.asks s.core0 s.cycle))
    || (differs (answer_of 1 s) (talk rests.core1 (core_asks.asks s.core1 s.cycle))
    || (differs (answer_of 2 s) (talk rests.dma (dma_asks.asks s.dma.block))
    || (differs (answer_of 3 s) (talk rests.pio0 (pio.asks s.pio0.block))
    || (differs (answer_of 4 s) (talk rests.pio1 (pio.asks s.pio1.block))
    || (differs (answer_of 5 s) (talk rests.outer (outer.asks s.outer s.cycle)) || false)))))

-- the wants of the lanes
abbrev pub wants_of : Begun → List Want
wants_of b =
    core.wanted b.core0 ++ (core.wanted b.core1 ++ (dma.wanted b.dma ++ (pio.wanted ++ (pio.wanted ++ (outer.wanted b.outer ++ [])))))

-- the cycle is one of the window: each logged answer is what the machine answers, and no two accesses name one port
abbrev pub fits : Rests → State → Bool
fits rests s = not (differs_by rests s || clash (wants_of (begun_by rests s)))

-- the marks of the first cycles
unfoldable pub marks_in : Setting → State → ℕ → List Mark
marks_in w s zero = []
marks_in w s (suc n) = marks_in w s n ++ mark w (states w s n) ∷ []

-- ---- the six reports

abbrev pub logs_of : Runs → Rests
logs_of runs = record {
  core0 = runs.core0.now.log;
  core1 = runs.core1.now.log;
  dma = runs.dma.now.log;
  pio0 = runs.pio0.now.log;
  pio1 = runs.pio1.now.log;
  outer = runs.outer.now.log;
}

-- some run has this length
abbrev pub end_at : Runs → ℕ → Bool
end_at runs k =
    (k == runs.core0.now.length) || ((k == runs.core1.now.length) || ((k == runs.dma.now.length) || ((k == runs.pio0.now.length)
    || ((k == runs.pio1.now.length) || ((k == runs.outer.now.length) || false)))))

-- they are the runs alone of the lanes
pub record AreRunsAlone (w : Setting) (s : State) (runs : Runs) : Type 0 where
  pub core0 : IsRunAlone core_lane 0 s.core0 s (longest w s) runs.core0.now
  pub core1 : IsRunAlone core_lane 1 s.core1 s (core1_bound s (longest w s)) runs.core1.now
  pub dma : IsRunAlone dma_lane 2 s.dma.block s (longest w s) runs.dma.now
  pub pio0 : IsRunAlone pio_lane 3 s.pio0.block s (longest w s) runs.pio0.now
  pub pio1 : IsRunAlone pio_lane 4 s.pio1.block s (longest w s) runs.pio1.now
  pub outer : IsRunAlone (peripheral_lane w) 5 s.outer s (longest w s) runs.outer.now

-- ---- from one position of a run to the next

-- it stopped, and nothing changed; or it went by a window; or by one cycle
abbrev pub IsStep : Setting → Bool → Moved → State → State → List Mark → List Mark → ℕ → ℕ → Type 0
IsStep w after_empty (moved.Stopped why) s t marks marks' steps steps' =
    (stop w s ≡ Some why) × (t ≡ s) × (steps' ≡ steps)
IsStep w after_empty (moved.Window n) s t marks marks' steps steps' =
    (stop w s ≡ None) × (is_tried after_empty s ≡ true) × (n ≡ window_length w s) × (t ≡ states w s n) × (marks' ≡ marks_in w s n) × (steps' ≡ steps + n) × (t.cycle ≡ s.cycle + n)
IsStep w after_empty moved.Cycle s t marks marks' steps steps' =
    (stop w s ≡ None) × (is_tried after_empty s ≡ false) × (t ≡ next w s) × (marks' ≡ mark w s ∷ []) × (steps' ≡ steps + 1)

-- Reports of lanes that come from anywhere: when one is true, when it is accepted for a state, and which one is taken. The
-- project's own.
use Rattle.std.specs.Prelude.{◌≡◌, ℕ, zero, suc, ◌+◌, ◌<◌, ◌⊎◌, false, List, Option, Some, None, length}
use Rattle.lane_look.specs.declared.replay.Report.{Report}
use Rattle.lane_look.specs.Replay.{Meaning, Entry, told, talk}
use Rattle.lane_look.specs.Alone.{alone_length, all_stored, differs}
use Rattle.lane_look.specs.Truth.{IsTrue, replay_of}
use Rattle.m0_core.specs.State.{State as Core}
use Rattle.dma_engine.specs.State.{State as Engine}
use Rattle.pio_block.specs.State.{State as Pio}
use Rattle.outer_lane.specs.Setting.{Setting}
use Rattle.outer_lane.specs.State.{State as OuterState}
use Rattle.rp_machine.specs.State.{State}
use Rattle.rp_machine.specs.Answers.{answer_of}
use Rattle.window_merge.specs.Lanes.{around, core_lane, dma_lane, pio_lane, peripheral_lane, core1_bound}
use Rattle.window_merge.specs.Window.{longest}
use Rattle.window_merge.specs.Merging.{IsRunAlone}

-- ---- a report of one of the six lanes, and the limit under which it was run

pub data OneReport : Type 0 where
  OfCore0 : (limit : ℕ) → (report : Report Core) → OneReport
  OfCore1 : (limit : ℕ) → (report : Report Core) → OneReport
  OfDma : (limit : ℕ) → (report : Report Engine) → OneReport
  OfPio0 : (limit : ℕ) → (report : Report Pio) → OneReport
  OfPio1 : (limit : ℕ) → (report : Report Pio) → OneReport
  OfOuter : (limit : ℕ) → (report : Report OuterState) → OneReport

-- it tells what such a lane does in that world, under the world's limit; the peripherals have the words of the world's device
abbrev pub IsTrueReport : Setting → OneReport → Type 0
IsTrueReport w (OfCore0 limit report) = (limit ≡ w.limit) × IsTrue core_lane tt report
IsTrueReport w (OfCore1 limit report) = (limit ≡ w.limit) × IsTrue core_lane tt report
IsTrueReport w (OfDma limit report) = (limit ≡ w.limit) × IsTrue dma_lane tt report
IsTrueReport w (OfPio0 limit report) = (limit ≡ w.limit) × IsTrue pio_lane tt report
IsTrueReport w (OfPio1 limit report) = (limit ≡ w.limit) × IsTrue pio_lane tt report
IsTrueReport w (OfOuter limit report) =
    (limit ≡ w.limit) × (length report.before.device ≡ w.device.count)
    × IsTrue (peripheral_lane w) tt report

abbrev pub IsTrueOrNone : Setting → Option OneReport → Type 0
IsTrueOrNone w None = Unit {0}
IsTrueOrNone w (Some report) = IsTrueReport w report

-- the report of that lane, if it is one
abbrev pub core0_in : Option OneReport → Option (ℕ × Report Core)
core0_in (Some (OfCore0 limit report)) = Some (limit, report)
core0_in _ = None

abbrev pub core1_in : Option OneReport → Option (ℕ × Report Core)
core1_in (Some (OfCore1 limit report)) = Some (limit, report)
core1_in _ = None

abbrev pub dma_in : Option OneReport → Option (ℕ × Report Engine)
dma_in (Some (OfDma limit report)) = Some (limit, report)
dma_in _ = None

abbrev pub pio0_in : Option OneReport → Option (ℕ × Report Pio)
pio0_in (Some (OfPio0 limit report)) = Some (limit, report)
pio0_in _ = None

abbrev pub pio1_in : Option OneReport → Option (ℕ × Report Pio)
pio1_in (Some (OfPio1 limit report)) = Some (limit, report)
pio1_in _ = None

abbrev pub outer_in : Option OneReport → Option (ℕ × Report OuterState)
outer_in (Some (OfOuter limit report)) = Some (limit, report)
outer_in _ = None

-- ---- a report that is accepted for a state

-- what the report's lane begins in its cycle k, by the report's log
abbrev pub begun_in : {S B : Type 0} → Meaning (Unit {0}) S B → Report S → ℕ → B
begun_in m report k =
    let r = replay_of m tt report k in told r.rest (m.asks tt r.state (report.start + k))

-- its questions of that cycle, with their answers
abbrev pub talk_in : {S B : Type 0} → Meaning (Unit {0}) S B → Report S → ℕ → List Entry
talk_in m report k =
    let r = replay_of m tt report k in talk r.rest (m.asks tt r.state (report.start + k))

-- the state, overlaid by the words of SRAM that the report's first k cycles wrote
unfoldable pub overlaid : {S B : Type 0} → Meaning (Unit {0}) S B → ℕ → Report S → State → ℕ → State
overlaid m lane report s zero = s
overlaid m lane report s (suc k) =
    all_stored (around lane) (overlaid m lane report s k) (m.wanted (begun_in m report k))

-- it begins at the state's cycle and with the state's lane, each answer is that of the state overlaid by the run's own writes,
-- and it is as long as a run alone of at most so many cycles
pub record IsAccepted {S B : Type 0} (m : Meaning (Unit {0}) S B) (lane : ℕ) (before : S)
    (s : State) (bound : ℕ) (report : Report S) : Type 0 where
  pub same_start : report.start ≡ s.cycle
  pub same_lane : report.before ≡ before
  pub same_answers : (k : ℕ) → k < report.length
      → differs (answer_of lane (overlaid m lane report s k)) (talk_in m report k) ≡ false
  pub same_length : report.length ≡ alone_length m (around lane) tt before s.cycle s bound

-- ---- the report that is taken for a lane

-- how many cycles a run alone may have under a limit
abbrev pub bound_under : Setting → State → ℕ → ℕ
bound_under w s limit = longest (record w { limit = limit }) s

-- the lane's report that came is this one, and it is accepted under its own limit
abbrev pub CameAccepted : {S B : Type 0} → Meaning (Unit {0}) S B → ℕ → S → State → (ℕ → ℕ)
    → Option (ℕ × Report S) → Report S → Type 0
CameAccepted m lane before s bound came report =
    (limit : ℕ) × (came ≡ Some (limit, report)) × IsAccepted m lane before s (bound limit) report

-- that one, or the lane's run alone where none came that is accepted
abbrev pub IsTaken : {S B : Type 0} → Meaning (Unit {0}) S B → ℕ → S → State → (ℕ → ℕ) → ℕ
    → Option (ℕ × Report S) → Report S → Type 0
IsTaken {S} m lane before s bound limit came report =
    CameAccepted m lane before s bound came report
    ⊎ (((other : Report S) → ¬ CameAccepted m lane before s bound came other)
    × IsRunAlone m lane before s (bound limit) report)

-- one of each lane
pub record SixReports : Type 0 where
  pub core0 : Report Core
  pub core1 : Report Core
  pub dma : Report Engine
  pub pio0 : Report Pio
  pub pio1 : Report Pio
  pub outer : Report OuterState

-- they are taken where these came, by the lane's number
pub record AreTaken (w : Setting) (s : State) (came : ℕ → Option OneReport) (six : SixReports)
    : Type 0 where
  pub core0 : IsTaken core_lane 0 s.core0 s (bound_under w s) w.limit (core0_in (came 0)) six.core0
  pub core1 : IsTaken core_lane 1 s.core1 s (λ limit. core1_bound s (bound_under w s limit))
      w.limit (core1_in (came 1)) six.core1
  pub dma : IsTaken dma_lane 2 s.dma.block s (bound_under w s) w.limit (dma_in (came 2)) six.dma
  pub pio0 : IsTaken pio_lane 3 s.pio0.block s (bound_under w s) w.limit (pio0_in (came 3)) six.pio0
  pub pio1 : IsTaken pio_lane 4 s.pio1.block s (bound_under w s) w.limit (pio1_in (came 4)) six.pio1
  pub outer : IsTaken (peripheral_lane w) 5 s.outer s (bound_under w s)
      w.limit (outer_in (came 5)) six.outer

-- all six came, and each is accepted
pub record AllCame (w : Setting) (s : State) (came : ℕ → Option OneReport) (six : SixReports)
    : Type 0 where
  pub core0 : CameAccepted core_lane 0 s.core0 s (bound_under w s) (core0_in (came 0)) six.core0
  pub core1 : CameAccepted core_lane 1 s.core1 s (λ limit. core1_bound s (bound_under w s limit))
      (core1_in (came 1)) six.core1
  pub dma : CameAccepted dma_lane 2 s.dma.block s (bound_under w s) (dma_in (came 2)) six.dma
  pub pio0 : CameAccepted pio_lane 3 s.pio0.block s (bound_under w s) (pio0_in (came 3)) six.pio0
  pub pio1 : CameAccepted pio_lane 4 s.pio1.block s (bound_under w s) (pio1_in (came 4)) six.pio1
  pub outer : CameAccepted (peripheral_lane w) 5 s.outer s (bound_under w s) (outer_in (came 5))
      six.outer

-- each is the run alone of its lane
pub record AreRunsAlone (w : Setting) (s : State) (six : SixReports) : Type 0 where
  pub core0 : IsRunAlone core_lane 0 s.core0 s (longest w s) six.core0
  pub core1 : IsRunAlone core_lane 1 s.core1 s (core1_bound s (longest w s)) six.core1
  pub dma : IsRunAlone dma_lane 2 s.dma.block s (longest w s) six.dma
  pub pio0 : IsRunAlone pio_lane 3 s.pio0.block s (longest w s) six.pio0
  pub pio1 : IsRunAlone pio_lane 4 s.pio1.block s (longest w s) six.pio1
  pub outer : IsRunAlone (peripheral_lane w) 5 s.outer s (longest w s) six.outer

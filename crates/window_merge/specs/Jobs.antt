-- What a job holds, and when a report is true in a world and is the run alone of its lane. The project's own.
use Rattle.std.specs.Prelude.{◌≡◌, ℕ, suc, ◌-◌, ◌==◌, ◌&&◌, nat_le, if◌then◌else◌, List, [], ◌∷◌, length, Option, Some, None}
use Rattle.lane_look.specs.declared.replay.Report.{Report}
use Rattle.lane_look.specs.Replay.{Meaning}
use Rattle.lane_look.specs.Alone.{alone, alone_length}
use Rattle.lane_look.specs.Truth.{IsTrue}
use Rattle.m0_core.specs.State.{State as Core}
use Rattle.pio_block.specs.State.{State as Pio}
use Rattle.outer_lane.specs.Setting.{Setting}
use Rattle.rp_machine.specs.State.{State}
use Rattle.window_merge.specs.declared.copies.Copies.{Copies}
use Rattle.window_merge.specs.declared.lane_run.LaneRun.{LaneRun}
use Rattle.window_merge.specs.declared.lane_run.LaneRun.TheVariants as run
use Rattle.window_merge.specs.declared.lane_job.LaneJob.{LaneJob}
use Rattle.window_merge.specs.declared.lane_job.LaneReport.{LaneReport}
use Rattle.window_merge.specs.declared.lane_job.Crew.{Crew}
use Rattle.window_merge.specs.Around.{copies_of, copied}
use Rattle.window_merge.specs.Lanes.{core_lane, dma_lane, pio_lane, peripheral_lane, is_launching}
use Rattle.window_merge.specs.Window.{longest}
use Rattle.window_merge.specs.Merging.{IsRunAlone}

-- ---- the lanes of a state by their numbers

abbrev pub core_of : ℕ → State → Core
core_of lane s = if lane == 0 then s.core0 else s.core1

abbrev pub block_of : ℕ → State → Pio
block_of lane s = if lane == 3 then s.pio0.block else s.pio1.block

-- core 1 takes a word of its launcher in its first cycle, where it sleeps and there is one; its run alone ends before that
abbrev pub core_bound : ℕ → Core → ℕ → ℕ
core_bound lane core bound = if lane == 1 && is_launching core then 0 else bound

-- ---- what a job holds

-- the report begins in the lane of that number of a state
abbrev pub BeginsIn : ℕ → State → LaneRun → Type 0
BeginsIn lane s (run.Core report) = report.before ≡ core_of lane s
BeginsIn lane s (run.Dma report) = report.before ≡ s.dma.block
BeginsIn lane s (run.Pio report) = report.before ≡ block_of lane s
BeginsIn lane s (run.Outer report) = report.before ≡ s.outer

abbrev pub HasLane : ℕ → State → Option LaneRun → Type 0
HasLane lane s None = ⊥
HasLane lane s (Some run) = BeginsIn lane s run

-- the state of the lane, its first cycle and all that it can ask are those of a state
pub record IsJobOf (s : State) (job : LaneJob) : Type 0 where
  pub start : job.start ≡ s.cycle
  pub lane : HasLane job.lane s job.set.room
  pub answers : job.set.copies ≡ copies_of job.lane s

-- the peripherals have so many words of a device
abbrev pub HasWords : ℕ → LaneRun → Type 0
HasWords count (run.Outer report) = length report.before.device ≡ count
HasWords count run = Unit {0}

abbrev pub HasWordsIn : ℕ → Option LaneRun → Type 0
HasWordsIn count None = Unit {0}
HasWordsIn count (Some run) = HasWords count run

-- it was made for a world: its limit is the world's, and the peripherals have as many words as the device of the world
pub record IsJobFor (w : Setting) (job : LaneJob) : Type 0 where
  pub limit : job.limit ≡ w.limit
  pub words : HasWordsIn w.device.count job.set.room

-- ---- true reports

abbrev pub IsTrueRun : Setting → LaneRun → Type 0
IsTrueRun w (run.Core report) = IsTrue core_lane tt report
IsTrueRun w (run.Dma report) = IsTrue dma_lane tt report
IsTrueRun w (run.Pio report) = IsTrue pio_lane tt report
IsTrueRun w (run.Outer report) = IsTrue (peripheral_lane w) tt report

pub record IsTrueIn (w : Setting) (report : LaneReport) : Type 0 where
  pub limit : report.limit ≡ w.limit
  pub words : HasWords w.device.count report.run
  pub replays : IsTrueRun w report.run

-- ---- the run alone of a lane from a state

abbrev pub IsAloneBy : Setting → State → ℕ → ℕ → LaneRun → Type 0
IsAloneBy w s bound lane (run.Core report) = IsRunAlone core_lane lane (core_of lane s) s (core_bound lane (core_of lane s) bound) report
IsAloneBy w s bound lane (run.Dma report) = IsRunAlone dma_lane lane s.dma.block s bound report
IsAloneBy w s bound lane (run.Pio report) = IsRunAlone pio_lane lane (block_of lane s) s bound report
IsAloneBy w s bound lane (run.Outer report) = IsRunAlone (peripheral_lane w) lane s.outer s bound report

abbrev pub IsAlone : Setting → State → LaneReport → Type 0
IsAlone w s report = IsAloneBy w s (longest w s) report.lane report.run

-- these are the runs alone of the lanes from one on, in their order
abbrev pub AreAloneFrom : ℕ → Setting → State → List LaneReport → Type 0
AreAloneFrom lane w s [] = Unit {0}
AreAloneFrom lane w s (report ∷ reports) = (report.lane ≡ lane) × IsAlone w s report × AreAloneFrom (suc lane) w s reports

abbrev pub AreAlone : Setting → State → List LaneReport → Type 0
AreAlone w s reports = AreAloneFrom 0 w s reports

-- ---- the run alone by what a job holds

-- a report is the run alone of a lane by copies of what is around it, of at most so many cycles
pub record RanIn {E S B : Type 0} (m : Meaning E S B) (env : E) (before : S) (start : ℕ) (copies : Copies) (bound : ℕ) (report : Report S) : Type 0 where
  pub same_start : report.start ≡ start
  pub same_lane : report.before ≡ before
  pub same_length : report.length ≡ alone_length m copied env before start copies bound
  pub same_log : report.log ≡ (alone m copied env before start copies report.length).talk
  pub replays : IsTrue m env report

-- a run ends after at most 256 cycles, and at the limit
abbrev pub longest_by : ℕ → ℕ → ℕ
longest_by limit start = if nat_le (limit - start) 256 then limit - start else 256

-- of the lane whose state is in the room
abbrev pub Ran : Setting → ℕ → ℕ → Copies → ℕ → LaneRun → LaneRun → Type 0
Ran w lane start copies bound (run.Core room) (run.Core report) = RanIn core_lane tt room.before start copies (core_bound lane room.before bound) report
Ran w lane start copies bound (run.Dma room) (run.Dma report) = RanIn dma_lane tt room.before start copies bound report
Ran w lane start copies bound (run.Pio room) (run.Pio report) = RanIn pio_lane tt room.before start copies bound report
Ran w lane start copies bound (run.Outer room) (run.Outer report) = RanIn (peripheral_lane w) tt room.before start copies bound report
Ran w lane start copies bound room report = ⊥

-- ---- a report's first cycle

abbrev pub start_of : LaneRun → ℕ
start_of (run.Core report) = report.start
start_of (run.Dma report) = report.start
start_of (run.Pio report) = report.start
start_of (run.Outer report) = report.start

-- ---- how many cycles it has

abbrev pub length_of : LaneRun → ℕ
length_of (run.Core report) = report.length
length_of (run.Dma report) = report.length
length_of (run.Pio report) = report.length
length_of (run.Outer report) = report.length

-- ---- the crew

abbrev pub HasNumber : ℕ → Option LaneJob → Type 0
HasNumber lane None = ⊥
HasNumber lane (Some job) = job.lane ≡ lane

abbrev pub HasLanesFrom : ℕ → List (Option LaneJob) → Type 0
HasLanesFrom lane [] = Unit {0}
HasLanesFrom lane (job ∷ jobs) = HasNumber lane job × HasLanesFrom (suc lane) jobs

-- each lane has its job
abbrev pub IsWhole : Crew → Type 0
IsWhole crew = HasLanesFrom 0 crew.jobs

-- no lane has one
abbrev pub HasNoJob : Crew → Type 0
HasNoJob crew = crew.jobs ≡ None ∷ None ∷ None ∷ None ∷ None ∷ None ∷ []

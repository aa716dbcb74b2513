-- When a report is not the run alone of its lane from a state, and which entry of its log tells so. The project's own.
use Rattle.std.specs.Prelude.{◌≡◌, ◌≢◌, ℕ, List, take, length, Option, Some, None, unwrap_or}
use Rattle.std.specs.List.{slice_get}
use Rattle.lane_look.specs.declared.lane.Ask.{Ask}
use Rattle.lane_look.specs.declared.replay.Report.{Report}
use Rattle.lane_look.specs.Replay.{Meaning, Entry}
use Rattle.lane_look.specs.Alone.{alone}
use Rattle.outer_lane.specs.Setting.{Setting}
use Rattle.rp_machine.specs.State.{State}
use Rattle.window_merge.specs.declared.lane_run.LaneRun.{LaneRun}
use Rattle.window_merge.specs.declared.lane_run.LaneRun.TheVariants as run
use Rattle.window_merge.specs.declared.lane_job.LaneReport.{LaneReport}
use Rattle.window_merge.specs.declared.accepting.Stranger.{Stranger}
use Rattle.window_merge.specs.Lanes.{around, core_lane, dma_lane, pio_lane, peripheral_lane}
use Rattle.window_merge.specs.Jobs.{core_of, block_of}

-- what a lane asks in so many cycles of its run alone from a state, and what it is answered: by that state, overlaid by what the
-- lane itself wrote
abbrev pub talk_alone : {S B : Type 0} → Meaning (Unit {0}) S B → ℕ → S → State → ℕ → List Entry
talk_alone m lane before s length = (alone m (around lane) tt before s.cycle s length).talk

-- a log has the same entries as a run before an index, and there the same question with another answer
pub record OtherAnswerAt (log talk : List Entry) (index : ℕ) : Type 0 where
  pub same_before : take index log ≡ take index talk
  pub question : Ask
  pub told : ℕ
  pub answer : ℕ
  pub in_log : slice_get log index ≡ Some (question, told)
  pub in_run : slice_get talk index ≡ Some (question, answer)
  pub other : told ≢ answer

-- the first entry of a report's log, by its number from 0, that has another answer than the run alone from the state, in as many
-- cycles as the report has; none where the report begins elsewhere, and where each answer is the same
abbrev pub IsStrange : {S B : Type 0} → Meaning (Unit {0}) S B → ℕ → S → State → Report S → Option ℕ → Type 0
IsStrange m lane before s report None =
    report.start ≡ s.cycle → report.before ≡ before → report.log ≡ talk_alone m lane before s report.length
IsStrange m lane before s report (Some index) =
    (report.start ≡ s.cycle) × (report.before ≡ before)
    × OtherAnswerAt report.log (talk_alone m lane before s report.length) index

abbrev pub IsStrangeBy : Setting → State → ℕ → LaneRun → Option ℕ → Type 0
IsStrangeBy w s lane (run.Core report) entry = IsStrange core_lane lane (core_of lane s) s report entry
IsStrangeBy w s lane (run.Dma report) entry = IsStrange dma_lane lane s.dma.block s report entry
IsStrangeBy w s lane (run.Pio report) entry = IsStrange pio_lane lane (block_of lane s) s report entry
IsStrangeBy w s lane (run.Outer report) entry = IsStrange (peripheral_lane w) lane s.outer s report entry

abbrev pub log_of : LaneRun → List Entry
log_of (run.Core report) = report.log
log_of (run.Dma report) = report.log
log_of (run.Pio report) = report.log
log_of (run.Outer report) = report.log

-- a stranger names the lane, and that entry, or else the log's length
pub record IsStranger (w : Setting) (s : State) (report : LaneReport) (stranger : Stranger) : Type 0 where
  pub lane : stranger.lane ≡ report.lane
  pub first : Option ℕ
  pub is_first : IsStrangeBy w s report.lane report.run first
  pub entry : stranger.entry ≡ unwrap_or first (length (log_of report.run))

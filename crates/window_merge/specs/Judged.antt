-- What a comparison of two logs says of a report, true or not. The project's own.
use Rattle.std.specs.Prelude.{◌≡◌, ◌≢◌, ℕ, List, take, Option, Some, None, Result, is_ok, IfErr, Decides}
use Rattle.std.specs.List.{slice_get}
use Rattle.lane_look.specs.declared.replay.Report.{Report}
use Rattle.lane_look.specs.Replay.{Meaning, Entry}
use Rattle.outer_lane.specs.Setting.{Setting}
use Rattle.rp_machine.specs.State.{State}
use Rattle.window_merge.specs.declared.lane_run.LaneRun.{LaneRun}
use Rattle.window_merge.specs.declared.lane_run.LaneRun.TheVariants as run
use Rattle.window_merge.specs.Lanes.{core_lane, dma_lane, pio_lane, peripheral_lane}
use Rattle.window_merge.specs.Jobs.{core_of, block_of}
use Rattle.window_merge.specs.Accept.{talk_alone}

-- two logs have the same entries before an index, and not the same entry there: it is another one, or one of them has ended
pub record DifferAt (log other : List Entry) (index : ℕ) : Type 0 where
  pub same_before : take index log ≡ take index other
  pub other_there : slice_get log index ≢ slice_get other index

-- the first index at which two logs differ, if they do
abbrev pub IsFirstOther : List Entry → List Entry → Option ℕ → Type 0
IsFirstOther log other None = log ≡ other
IsFirstOther log other (Some index) = DifferAt log other index

-- the first entry of a report's log that is not the one of the run alone; none where the report begins in another state of the
-- lane, and where the logs are the same
abbrev pub IsUnlike : {S B : Type 0} → Meaning (Unit {0}) S B → ℕ → S → State → Report S → Option ℕ → Type 0
IsUnlike m lane before s report None = report.before ≡ before → report.log ≡ talk_alone m lane before s report.length
IsUnlike m lane before s report (Some index) =
    (report.before ≡ before) × DifferAt report.log (talk_alone m lane before s report.length) index

abbrev pub IsUnlikeBy : Setting → State → ℕ → LaneRun → Option ℕ → Type 0
IsUnlikeBy w s lane (run.Core report) entry = IsUnlike core_lane lane (core_of lane s) s report entry
IsUnlikeBy w s lane (run.Dma report) entry = IsUnlike dma_lane lane s.dma.block s report entry
IsUnlikeBy w s lane (run.Pio report) entry = IsUnlike pio_lane lane (block_of lane s) s report entry
IsUnlikeBy w s lane (run.Outer report) entry = IsUnlike (peripheral_lane w) lane s.outer s report entry

-- it is the run alone exactly where that is said, and else this entry tells
pub record Judges (alone : Type 0) (unlike : Option ℕ → Type 0) (result : Result (Unit {0}) (Option ℕ)) : Type 0 where
  pub is_alone : Decides (is_ok result) alone
  pub is_unlike : IfErr result unlike

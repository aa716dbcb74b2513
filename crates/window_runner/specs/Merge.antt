-- The merge of six reports by their logs. The project's own.
use Rattle.std.specs.Prelude.{ℕ, zero, suc, ◌==◌, ◌||◌, Bool, false, not}
use Rattle.lane_look.specs.Alone.{least}
use Rattle.outer_lane.specs.Setting.{Setting}
use Rattle.rp_machine.specs.State.{State}
use Rattle.rp_machine.specs.Cycle.{wanted, next_by}
use Rattle.window_merge.specs.Window.{longest}
use Rattle.window_merge.specs.declared.runs.Rests.{Rests}
use Rattle.window_merge.specs.Merging.{begun_by, left_by, fits}
use Rattle.window_runner.specs.Reports.{SixReports}

-- the machine, and what is left of the six logs
pub record Merging : Type 0 where
  pub state : State
  pub rests : Rests

abbrev pub logs_of : SixReports → Rests
logs_of six = record {
  core0 = six.core0.log;
  core1 = six.core1.log;
  dma = six.dma.log;
  pio0 = six.pio0.log;
  pio1 = six.pio1.log;
  outer = six.outer.log;
}

-- one cycle in which the lanes begin what the logs tell them
abbrev pub told_cycle : Setting → Merging → Merging
told_cycle w now =
    let begun = begun_by now.rests now.state in
    record { state = next_by w begun (wanted begun) now.state; rests = left_by now.rests now.state }

-- after k cycles
unfoldable pub by_logs : Setting → SixReports → State → ℕ → Merging
by_logs w six s zero = record { state = s; rests = logs_of six }
by_logs w six s (suc k) = told_cycle w (by_logs w six s k)

-- some report has k cycles
abbrev pub any_ends : SixReports → ℕ → Bool
any_ends six k =
    (k == six.core0.length) || ((k == six.core1.length) || ((k == six.dma.length)
    || ((k == six.pio0.length) || ((k == six.pio1.length) || ((k == six.outer.length) || false)))))

-- the merge ends at k: a report ends there, or an answer of a log is not the machine's, or two accesses name one port
unfoldable pub merge_ends : Setting → SixReports → State → ℕ → Bool
merge_ends w six s k =
    let now = by_logs w six s k in any_ends six k || not (fits now.rests now.state)

unfoldable pub merged_length : Setting → SixReports → State → ℕ
merged_length w six s = least (merge_ends w six s) (longest w s)

-- the state that it leaves
abbrev pub merged : Setting → SixReports → State → State
merged w six s = (by_logs w six s (merged_length w six s)).state

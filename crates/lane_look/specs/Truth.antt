-- When a report is true; and that a lane which is answered as a log has it goes the way of its replay.
use Rattle.std.specs.Prelude.{◌≡◌, ℕ, ◌+◌, ◌^◌, ◌<◌, ◌≤◌, List, ◌++◌}
use Rattle.lane_look.specs.declared.lane.Ask.{Ask}
use Rattle.lane_look.specs.declared.replay.Report.{Report}
use Rattle.lane_look.specs.Replay.{Meaning, Entry, Replay, replayed}
use Rattle.lane_look.specs.Alone.{driven}

-- the replay of a report's log for so many cycles
abbrev pub replay_of : {E S B : Type 0} → Meaning E S B → E → Report S → ℕ → Replay S
replay_of m env report n = replayed m env report.before report.start report.log n

-- the replay asks the questions of the log and no others, and leaves the lane and the marks of the report
pub record IsTrue {E S B : Type 0} (m : Meaning E S B) (env : E) (report : Report S) : Type 0 where
  pub short : report.length ≤ 256
  pub number : report.start + report.length < 2 ^ 64
  pub whole : (replay_of m env report report.length).talk ≡ report.log
  pub lane_after : report.after ≡ (replay_of m env report report.length).state
  pub marks_left : report.marks ≡ (replay_of m env report report.length).marks

-- a lane that is answered by a function for each cycle, as the first entries of a log have it, is where the replay is
abbrev pub Follows : {E S B : Type 0} → Meaning E S B → Type 0
Follows {E} {S} m =
    (env : E) (before : S) (start : ℕ) (log : List Entry) (n : ℕ) (f : ℕ → Ask → ℕ) (more : List Entry)
    → log ≡ (driven m env before start f n).talk ++ more
    → (replayed m env before start log n).state ≡ (driven m env before start f n).state

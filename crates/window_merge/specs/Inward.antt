-- Cycles of a window in which nobody has anything to do, or core 0 alone is at work in SRAM beside lanes that are quiet. The project's own.
use Rattle.std.specs.Prelude.{◌≡◌, ℕ, zero, suc, ◌+◌, ◌<◌, true, false, List, [], ◌∷◌, ◌++◌}
use Rattle.lane_look.specs.declared.lane.Want.{Want}
use Rattle.lane_look.specs.declared.lane.Want.TheVariants as want
use Rattle.lane_look.specs.declared.marks.Mark.{Mark}
use Rattle.lane_look.specs.Alone.{ends_want}
use Rattle.outer_lane.specs.Setting.{Setting}
use Rattle.rp_machine.specs.State.{State}
use Rattle.rp_machine.specs.Cycle.{wanted}
use Rattle.rp_machine.specs.Inward.{core0_want, inward_after}
use Rattle.rp_machine.specs.Run.{states}
use Rattle.window_merge.specs.declared.notes.Notes.{Notes}
use Rattle.window_merge.specs.declared.start.Start.{Start}
use Rattle.window_merge.specs.Notes.{noted, noted_by}
use Rattle.window_merge.specs.Start.{begun_from, goes_on}
use Rattle.window_merge.specs.Window.{window_length}
use Rattle.window_merge.specs.Merging.{marks_in}

-- what is noted then in so many cycles from a state of a window on, where its start answers so and this was noted before
unfoldable pub noted_in : Setting → Start → Notes → State → ℕ → Notes
noted_in w start n s zero = n
noted_in w start n s (suc k) =
    noted_by (wanted (begun_from start (noted_in w start n s k) (states w s k))) (states w s k).sram (noted_in w start n s k)

-- each of them goes as the lanes go alone
abbrev pub GoesAsAlone : Setting → Start → Notes → State → ℕ → Type 0
GoesAsAlone w start n s cycles = (k : ℕ) → k < cycles → goes_on start (noted_in w start n s k) (states w s k) ≡ true

-- the machine has gone over so many cycles of a window, each of which goes as the lanes go alone: what it is then, and what is
-- noted and marked, where this was before
pub record GoneOver (w : Setting) (start : Start) (s : State) (notes : Notes) (marks : List Mark) (cycles : ℕ) (s' : State)
    (notes' : Notes) (marks' : List Mark) : Type 0 where
  pub state : s' ≡ states w s cycles
  pub goes : GoesAsAlone w start notes s cycles
  pub noted : notes' ≡ noted_in w start notes s cycles
  pub marked : marks' ≡ marks ++ marks_in w s cycles

-- or by the window of the state
pub record IsWindow (w : Setting) (s : State) (cycles : ℕ) (s' : State) (marks : List Mark) : Type 0 where
  pub length : cycles ≡ window_length w s
  pub state : s' ≡ states w s cycles
  pub number : s'.cycle ≡ s.cycle + cycles
  pub marked : marks ≡ marks_in w s cycles

-- what core 0 wants is noted
abbrev pub noted_core0 : Want → List ℕ → Notes → Notes
noted_core0 x sram n = noted x want.Nothing want.Nothing sram n

-- and what it writes in so many cycles in which it goes on alone
unfoldable pub noted_inward : Notes → ℕ → State → Notes
noted_inward n zero s = n
noted_inward n (suc k) s = noted_core0 (core0_want (inward_after k s)) (inward_after k s).sram (noted_inward n k s)

-- in which its run alone does not end
abbrev pub KeepsInward : State → ℕ → Type 0
KeepsInward s n = (k : ℕ) → k < n → ends_want (core0_want (inward_after k s)) ≡ false

-- so many times the same mark
unfoldable pub same_marks : ℕ → Mark → List Mark
same_marks zero mark = []
same_marks (suc n) mark = same_marks n mark ++ mark ∷ []

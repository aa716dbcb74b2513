-- How a run goes on that counts no windows, and what is true of one on its way. The project's own.
use Rattle.std.specs.Prelude.{◌≡◌, ℕ, ◌+◌, ◌<◌, ◌≤◌, ◌++◌, List, Option, Some, None, Result, Ok, Err}
use Rattle.rp_base.specs.declared.Why.{Why}
use Rattle.lane_look.specs.declared.marks.Mark.{Mark}
use Rattle.outer_lane.specs.Setting.{Setting}
use Rattle.rp_machine.specs.State.{State}
use Rattle.rp_machine.specs.Cycle.{stop}
use Rattle.rp_machine.specs.Run.{last_state, states}
use Rattle.rp_machine.specs.Quiet.{IsQuiet}
use Rattle.trace_text.specs.declared.event.Event.{Event as Shown}
use Rattle.trace_text.specs.declared.writer.SinkFault.{SinkFault}
use Rattle.window_merge.specs.Merging.{marks_in}
use Rattle.window_runner.specs.Told.{run_shown}

-- the marks of so many cycles are left, or there is a stop
abbrev pub HasLeft : Setting → State → State → ℕ → List Mark → Option Why → Type 0
HasLeft w s t n marks None = marks ≡ marks_in w s n
HasLeft w s t n marks (Some why) = (n ≡ 0) × (stop w t ≡ Some why)

-- the machine went over cycles of which nothing is told, and then over at most so many whose marks are left
pub record Goes (w : Setting) (most : ℕ) (s t : State) (marks : List Mark) (before after : ℕ) (result : Option Why) : Type 0 where
  pub over : ℕ
  pub told : ℕ
  pub few : told ≤ most
  pub quiet : IsQuiet w s over
  pub state : t ≡ states w (states w s over) told
  pub number : t.cycle ≡ s.cycle + over + told
  pub steps : after ≡ before + over + told
  pub left : HasLeft w (states w s over) t told marks result

-- it went by a window of so many cycles, one at least
pub record IsOver (w : Setting) (n : ℕ) (s t : State) (marks : List Mark) (before after : ℕ) : Type 0 where
  pub some : 0 < n
  pub few : n ≤ 256
  pub state : t ≡ states w s n
  pub number : t.cycle ≡ s.cycle + n
  pub left : marks ≡ marks_in w s n
  pub steps : after ≡ before + n

-- ---- a run on its way

-- so many cycles on
pub record GoesOn (w : Setting) (s t : State) : Type 0 where
  pub count : ℕ
  pub state : t ≡ states w s count

-- the first of some events were taken, these are left, and the count has not fallen
pub record TakenBefore {T : Type 0} (took : T → List Shown → T → Type 0) (old new : T) (before now : ℕ) (events rest : List Shown) : Type 0 where
  pub part : List Shown
  pub taken : took old part new
  pub count : before ≤ now
  pub whole : events ≡ part ++ rest

-- a run from a first state has come to this one, its cycles were counted, and a tape took their events
pub record OnItsWay {T : Type 0} (took : T → List Shown → T → Type 0) (a b : T) (f g : ℕ) (w : Setting) (first s : State) (before now : ℕ) : Type 0 where
  pub within : s.cycle ≤ w.limit
  pub forward : first.cycle ≤ s.cycle
  pub way : GoesOn w first s
  pub last : last_state w s ≡ last_state w first
  pub steps : now + first.cycle ≡ before + s.cycle
  pub taken : TakenBefore took a b f g (run_shown w first) (run_shown w s)

-- a run whose tape took all events so far answers the cause of the stop that it stands at, or has gone on behind a cycle and knows of none
abbrev pub IsCauseAt : Setting → ℕ → State → Result (Option Why) SinkFault → Type 0
IsCauseAt w until s (Ok (Some why)) = stop w s ≡ Some why
IsCauseAt w until s (Ok None) = until < s.cycle
IsCauseAt w until s (Err fault) = Unit {0}

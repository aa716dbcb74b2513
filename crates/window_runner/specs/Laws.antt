-- What holds of a run that goes by windows, in other words than its definition.
use Rattle.std.specs.Prelude.{◌≡◌, ℕ, ◌+◌, ◌≤◌}
use Rattle.outer_lane.specs.Setting.{Setting}
use Rattle.rp_machine.specs.State.{State}
use Rattle.rp_machine.specs.Run.{states, events_in, last_state, all_events}
use Rattle.window_merge.specs.Window.{last_position}
use Rattle.window_merge.specs.Merging.{marks_in}
use Rattle.window_runner.specs.Told.{events_by, window_events}

-- a run by windows has the events of the run by single cycles, in the same order
abbrev pub TheEventsAreThoseOfCycles : Type 0
TheEventsAreThoseOfCycles = (w : Setting) (s : State) → s.cycle ≤ w.limit → window_events w s ≡ all_events w s

-- the marks of cycles that were all done tell their events, where the pads had the levels of the state before them
abbrev pub TheMarksTellTheEvents : Type 0
TheMarksTellTheEvents = (w : Setting) (s : State) (n : ℕ) → (states w s n).cycle ≡ s.cycle + n
    → events_by s.cycle s.outer.pads.current (marks_in w s n) ≡ events_in w s n

-- it tries no more windows than it has cycles
abbrev pub WindowsAreFew : Type 0
WindowsAreFew = (w : Setting) (s : State) → s.cycle ≤ w.limit → (last_position w s).windows + s.cycle ≤ (last_state w s).cycle

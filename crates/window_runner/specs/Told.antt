-- The events of a run as a tape takes them: by single cycles, by the marks of some cycles, and by the positions of a run that goes
-- by windows. The project's own.
use Rattle.std.specs.Prelude.{ℕ, zero, suc, ◌+◌, ◌*◌, ◌-◌, if◌then◌else◌, List, [], ◌∷◌, ◌++◌, map}
use Rattle.lane_look.specs.declared.marks.Mark.{Mark}
use Rattle.outer_lane.specs.Setting.{Setting}
use Rattle.trace_text.specs.declared.event.Event.{Event as Shown}
use Rattle.trace_text.specs.declared.event.Event.TheVariants as shown
use Rattle.rp_machine.specs.State.{State}
use Rattle.rp_machine.specs.Cycle.{stop}
use Rattle.rp_machine.specs.Events.{Event, events_of, events}
use Rattle.rp_machine.specs.Events.Event.{Byte, Pin}
use Rattle.rp_machine.specs.Run.{events_in, all_events, unless_stopped}
use Rattle.window_merge.specs.Window.{Position, first_position, is_tried, next_position, window_length}

-- an event as a tape takes it
abbrev pub shown_as : Event → Shown
shown_as (Byte cycle uart byte) = shown.Uart cycle uart byte
shown_as (Pin cycle pin high) = shown.Pin cycle pin high

unfoldable pub all_shown : List Event → List Shown
all_shown events = map shown_as events

-- the events of the run from a state, up to the first state with a stop
abbrev pub run_shown : Setting → State → List Shown
run_shown w s = all_shown (all_events w s)

-- the events of cycles, from that number on, that leave these marks, where the pads had these levels before them
abbrev pub events_by : ℕ → ℕ → List Mark → List Event
events_by cycle before [] = []
events_by cycle before (mark ∷ marks) = events_of cycle before mark ++ events_by (cycle + 1) mark.pads marks

-- ---- by windows

-- the events of the step from a position to the next
abbrev pub step_events : Setting → Position → List Event
step_events w p =
    if is_tried p.after_empty p.state then events_in w p.state (window_length w p.state) else events w p.state

-- those of so many steps, or of those up to the first position that stops
unfoldable pub events_along : Setting → Position → ℕ → List Event
events_along w p zero = []
events_along w p (suc n) = unless_stopped (stop w p.state) [] (step_events w p ++ events_along w (next_position w p) n)

-- those of a run
abbrev pub window_events : Setting → State → List Event
window_events w s = events_along w (first_position s) (2 * (w.limit - s.cycle) + 1)

-- The text of a run: the project's own.
use Rattle.std.specs.Prelude.{ℕ, Bool, true, false, ◌-◌, List, [], ◌∷◌, ◌++◌, flat_map, map, Option, Some, None, codes, decimal}
use Rattle.rp_base.specs.declared.Why.{Why}
use Rattle.trace_text.specs.declared.event.Event.{Event}
use Rattle.trace_text.specs.declared.event.Event.TheVariants.{Uart, Pin}
use Rattle.trace_text.specs.Line.{stop_text, register_text, event_text}
use Rattle.outer_lane.specs.Setting.{Setting}
use Rattle.rp_machine.specs.State.{State}
use Rattle.rp_machine.specs.Cycle.{stop}
use Rattle.rp_machine.specs.Readers.{registers_of}
use Rattle.rp_machine.specs.Run.{last_state}
use Rattle.window_merge.specs.Window.{last_position}
use Rattle.window_runner.specs.Told.{run_shown}
use Rattle.board_parts.specs.Hearing.{Aim, after_hearing, aim_text}
use Rattle.board_parts.specs.declared.change.PinChange.{PinChange}

-- the lines of events, one after another
abbrev pub event_lines : List Event → List ℕ
event_lines events = flat_map event_text events

-- the line of the stop at a cycle
abbrev pub stop_lines : Option Why → ℕ → List ℕ
stop_lines None cycle = []
stop_lines (Some why) cycle = stop_text why cycle

-- ---- the probes

-- the change that an event is, if it is one of a pin
abbrev pub change_in : Event → List PinChange
change_in (Uart cycle number byte) = []
change_in (Pin cycle pin level) = record { cycle = cycle; pin = pin; level = level } ∷ []

-- probes that heard the changes of pins among events, in their order
abbrev pub after_events : List Event → List Aim → List Aim
after_events events aims = map (after_hearing (flat_map change_in events)) aims

-- the lines of probes, one after another
abbrev pub probe_lines : List Aim → List ℕ
probe_lines aims = flat_map aim_text aims

-- ---- the counts

-- the line that says how many windows were tried and how many cycles they had, where it is asked for
unfoldable pub counts_text : Bool → ℕ → ℕ → List ℕ
counts_text false windows cycles = []
counts_text true windows cycles = codes "windows " ++ decimal windows ++ codes " cycles " ++ decimal cycles ++ codes "\n"

-- that of the run from a state
abbrev pub stats_text : Bool → Setting → State → List ℕ
stats_text stats w s = counts_text stats (last_position w s).windows (last_position w s).cycles

-- ---- the run

-- the lines of a state at which a run ends for this cause, those of the probes that heard it, and that of the counts
abbrev pub end_text : Option Why → State → List Aim → List ℕ → List ℕ
end_text why s aims counts =
    stop_lines why s.cycle ++ register_text 0 (registers_of 0 s) ++ register_text 1 (registers_of 1 s) ++ probe_lines aims ++ counts

-- the text of the run from a state: the lines of the events of all cycles, those of the first state with a stop, those of the
-- probes that are aimed, which have heard these events, and that of the counts, where it is asked for
unfoldable pub run_text : Bool → Setting → List Aim → State → List ℕ
run_text stats w aims s =
    event_lines (run_shown w s)
    ++ end_text (stop w (last_state w s)) (last_state w s) (after_events (run_shown w s) aims) (stats_text stats w s)

-- how many cycles the run has: the number of the cycle that its last state would do next, from the one that its first would do
unfoldable pub run_cycles : Setting → State → ℕ
run_cycles w s = (last_state w s).cycle - s.cycle

-- Cycle after cycle, up to the first state that has a stop.
use Rattle.std.specs.Prelude.{ℕ, zero, suc, ◌-◌, List, [], ◌++◌, Option, Some, None}
use Rattle.rp_base.specs.declared.Why.{Why}
use Rattle.outer_lane.specs.Setting.{Setting}
use Rattle.rp_machine.specs.State.{State}
use Rattle.rp_machine.specs.Cycle.{stop, next}
use Rattle.rp_machine.specs.Events.{Event, events}

-- one thing where there is a cause to stop, and else the other
abbrev pub unless_stopped : {A : Type 0} → Option Why → A → A → A
unless_stopped (Some cause) stopped running = stopped
unless_stopped None stopped running = running

-- the state after n cycles, or the first one with a stop
unfoldable pub states : Setting → State → ℕ → State
states w s zero = s
states w s (suc n) = unless_stopped (stop w s) s (states w (next w s) n)

-- the events of n cycles, or of those up to the first state with a stop
unfoldable pub events_in : Setting → State → ℕ → List Event
events_in w s zero = []
events_in w s (suc n) = unless_stopped (stop w s) [] (events w s ++ events_in w (next w s) n)

-- the first state with a stop; its cycle is at most the limit
unfoldable pub last_state : Setting → State → State
last_state w s = states w s (w.limit - s.cycle)

-- the events of all cycles up to it
unfoldable pub all_events : Setting → State → List Event
all_events w s = events_in w s (w.limit - s.cycle)

-- A cycle master by master: who has won the port that it asks for, and what that port remembers then.
use Rattle.std.specs.Prelude.{ℕ, Bool, false, ◌&&◌, if◌then◌else◌, List, slice_set, Option, Some, None}
use Rattle.rp_base.specs.declared.Master.{Master}
use Rattle.bus_fabric.specs.Masters.{Access, access_of, asks_on}
use Rattle.bus_fabric.specs.State.{State, last_on}
use Rattle.bus_fabric.specs.Grant.{is_high, beats, wins, winner_of, is_free}

-- a master wins a port that has no hold, and the winner of such a port
abbrev pub wins_free : List (Option Access) → State → ℕ → Master → Bool
wins_free asked s port m = wins (is_high s.priority) (last_on port s) (asks_on asked port) m

abbrev pub winner_free : List (Option Access) → State → ℕ → Option Master
winner_free asked s port = winner_of (is_high s.priority) (last_on port s) (asks_on asked port)

-- the request of another master on a port that `last` won last beats that of a master
abbrev pub loses_to : List (Option Access) → ℕ → ℕ → Master → Master → Master → Bool
loses_to asked priority port last m other = asks_on asked port other && beats (is_high priority) last other m

-- a master wins a port
abbrev pub wins_on : List (Option Access) → State → ℕ → Master → Bool
wins_on asked s port m = is_free s.hold port && wins_free asked s port m

abbrev pub has_won_by : List (Option Access) → State → Master → Option Access → Bool
has_won_by asked s m None = false
has_won_by asked s m (Some access) = wins_on asked s access.0 m

abbrev pub has_won : List (Option Access) → State → Master → Bool
has_won asked s m = has_won_by asked s m (access_of asked m)

-- the port of an access remembers a master that has won it
abbrev pub remembered_by : Option Access → Master → List Master → List Master
remembered_by None m last = last
remembered_by (Some access) m last = slice_set last access.0 m

abbrev pub remembered : Bool → Option Access → Master → List Master → List Master
remembered won access m last = if won then remembered_by access m last else last

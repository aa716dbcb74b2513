-- The length of a window, as a function of the state at its start; and the positions at which windows are tried. The project's
-- own.
use Rattle.std.specs.Prelude.{ℕ, zero, suc, ◌+◌, ◌-◌, ◌*◌, ◌==◌, ◌||◌, ◌&&◌, Bool, false, not, nat_le, if◌then◌else◌, List, [], ◌∷◌, ◌++◌, Option, Some, None}
use Rattle.std.specs.List.{list_any}
use Rattle.lane_look.specs.declared.lane.Want.{Want}
use Rattle.lane_look.specs.Alone.{differs, least}
use Rattle.bus_fabric.specs.Masters.{is_on}
use Rattle.bus_fabric.specs.State.{has_hold}
use Rattle.outer_lane.specs.Setting.{Setting}
use Rattle.rp_machine.specs.State.{State}
use Rattle.rp_machine.specs.Answers.{answer_of}
use Rattle.rp_machine.specs.Deeds.{asked_of}
use Rattle.rp_machine.specs.Cycle.{stop, next}
use Rattle.rp_machine.specs.Run.{states, unless_stopped}
use Rattle.window_merge.specs.Lanes.{Run, runs_of}

-- a window has at most 256 cycles, and none at the limit or above
abbrev pub longest : Setting → State → ℕ
longest w s = if nat_le (w.limit - s.cycle) 256 then w.limit - s.cycle else 256

-- ---- what closes a window in its cycle k

-- the run alone of a lane ends there
abbrev pub ends_in : List Run → ℕ → Bool
ends_in runs k = list_any (λ run. k == run.cycles) runs

-- an answer that a lane had in its run differs from what the machine gives that is stepped cycle by cycle
abbrev pub differs_in : List Run → State → ℕ → Bool
differs_in runs now k = list_any (λ run. differs (answer_of run.lane now) (run.asked k)) runs

-- two wants ask for one port
abbrev pub is_port_of : Option (ℕ × Bool) → Option (ℕ × Bool) → Bool
is_port_of None other = false
is_port_of (Some access) other = is_on access.0 other

abbrev pub share_port : Want → Want → Bool
share_port v w = is_port_of (asked_of v) (asked_of w)

abbrev pub clash : List Want → Bool
clash [] = false
clash (w ∷ wants) = list_any (share_port w) wants || clash wants

-- the wants of all lanes in cycle k
abbrev pub all_wants : List Run → ℕ → List Want
all_wants [] k = []
all_wants (run ∷ runs) k = run.wants k ++ all_wants runs k

abbrev pub clash_in : List Run → ℕ → Bool
clash_in runs k = clash (all_wants runs k)

unfoldable pub closes : Setting → State → ℕ → Bool
closes w s k =
    let runs = runs_of w s (longest w s) in ends_in runs k || differs_in runs (states w s k) k || clash_in runs k

-- the least number of cycles in which the window closes; else as many as it may have
unfoldable pub window_length : Setting → State → ℕ
window_length w s = least (closes w s) (longest w s)

-- ---- the positions at which a run stands

-- where a run stands between windows and single cycles; how many windows were tried, and how many cycles they had; whether the
-- last step was a window without a cycle
pub record Position : Type 0 where
  pub state : State
  pub windows : ℕ
  pub cycles : ℕ
  pub after_empty : Bool

-- at the start
abbrev pub first_position : State → Position
first_position s = record { state = s; windows = 0; cycles = 0; after_empty = false }

-- a window is tried where no access lasts and the last step was not a window without a cycle
abbrev pub is_tried : Bool → State → Bool
is_tried after_empty s = not after_empty && not (has_hold s.fabric)

-- by so many cycles of a window
abbrev pub by_window : Setting → ℕ → Position → Position
by_window w n p = record { state = states w p.state n; windows = p.windows + 1; cycles = p.cycles + n; after_empty = n == 0 }

-- by one cycle
abbrev pub by_cycle : Setting → Position → Position
by_cycle w p = record p { state = next w p.state; after_empty = false }

-- the next position, where the run does not stop
unfoldable pub next_position : Setting → Position → Position
next_position w p = if is_tried p.after_empty p.state then by_window w (window_length w p.state) p else by_cycle w p

-- the position after so many steps, or the first one that stops
unfoldable pub positions : Setting → Position → ℕ → Position
positions w p zero = p
positions w p (suc n) = unless_stopped (stop w p.state) p (positions w (next_position w p) n)

-- how many windows a run tries, and how many cycles they have: of each two steps one has a cycle
abbrev pub last_position : Setting → State → Position
last_position w s = positions w (first_position s) (2 * (w.limit - s.cycle) + 1)

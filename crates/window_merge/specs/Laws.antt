-- What holds of windows and of the positions of a run, in other words than their definitions.
use Rattle.std.specs.Prelude.{◌≡◌, ◌≤◌}
use Rattle.outer_lane.specs.Setting.{Setting}
use Rattle.rp_machine.specs.State.{State}
use Rattle.rp_machine.specs.Run.{last_state}
use Rattle.window_merge.specs.Window.{last_position}

-- a run that goes by windows and single cycles comes to the state at which the run by single cycles stops
abbrev pub TheRunEndsWhereCyclesEnd : Type 0
TheRunEndsWhereCyclesEnd = (w : Setting) (s : State) → s.cycle ≤ w.limit → (last_position w s).state ≡ last_state w s

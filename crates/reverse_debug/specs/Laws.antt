-- What the near stretch of a session has, in other words than its definition.
use Rattle.std.specs.Prelude.{◌≤◌, ℕ, ◌-◌, ◌%◌}
use Rattle.outer_lane.specs.Setting.{Setting}
use Rattle.reverse_debug.specs.Session.{Standing, IsIn, StandsFor}

-- where a session stands within its near stretch, that has each cycle from the last multiple of the spacing up to the present one
abbrev pub TheNextMoveBackIsNear : Type 0
TheNextMoveBackIsNear =
    (w : Setting) (session : Standing) → StandsFor w session → IsIn session.near session.now.cycle →
    (target : ℕ) → session.now.cycle - session.now.cycle % session.ring.spacing ≤ target → target ≤ session.now.cycle → IsIn session.near target

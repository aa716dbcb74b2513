-- The way to a cycle by windows. The project's own.
use Rattle.std.specs.Prelude.{◌≡◌, ℕ, ◌<◌, Option, Some, None}
use Rattle.rp_base.specs.declared.Why.{Why}
use Rattle.outer_lane.specs.Setting.{Setting}
use Rattle.rp_machine.specs.State.{State}
use Rattle.rp_machine.specs.Cycle.{stop}

-- it stands at the cycle; or at a stop below it
abbrev pub IsReached : Setting → ℕ → Option Why → State → Type 0
IsReached w to None s = s.cycle ≡ to
IsReached w to (Some why) s = (s.cycle < to) × (stop w s ≡ Some why)

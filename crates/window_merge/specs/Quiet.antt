-- Windows in which nobody has anything to do. The project's own.
use Rattle.std.specs.Prelude.{◌≡◌, ℕ, ◌+◌, ◌*◌, ◌<◌, false}
use Rattle.bus_fabric.specs.State.{has_hold}
use Rattle.outer_lane.specs.Setting.{Setting}
use Rattle.rp_machine.specs.State.{State}
use Rattle.rp_machine.specs.Run.{states}
use Rattle.rp_machine.specs.Quiet.{IsQuiet}
use Rattle.window_merge.specs.Window.{Position, window_length}

-- so many of them follow one another, each of 256 cycles
pub record AreQuietWindows (w : Setting) (s : State) (n : ℕ) : Type 0 where
  pub quiet : IsQuiet w s (256 * n)
  pub free : (k : ℕ) → k < n → has_hold (states w s (256 * k)).fabric ≡ false
  pub whole : (k : ℕ) → k < n → window_length w (states w s (256 * k)) ≡ 256

-- the position behind them
abbrev pub behind_quiet : Setting → ℕ → Position → Position
behind_quiet w n p = record p { state = states w p.state (256 * n); windows = p.windows + n; cycles = p.cycles + 256 * n }

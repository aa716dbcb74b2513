-- Cycles of which a run tells nothing.
use Rattle.std.specs.Prelude.{◌≡◌, ℕ, ◌+◌, ◌<◌, ◌≤◌, [], None}
use Rattle.outer_lane.specs.Setting.{Setting}
use Rattle.rp_machine.specs.State.{State}
use Rattle.rp_machine.specs.Cycle.{stop}
use Rattle.rp_machine.specs.Events.{events}
use Rattle.rp_machine.specs.Run.{states}

-- so many cycles happen and have no events, and the pads stay
pub record IsQuiet (w : Setting) (s : State) (n : ℕ) : Type 0 where
  pub goes : (k : ℕ) → k < n → stop w (states w s k) ≡ None
  pub silent : (k : ℕ) → k < n → events w (states w s k) ≡ []
  pub pads : (k : ℕ) → k ≤ n → (states w s k).outer.pads ≡ s.outer.pads
  pub cycle : (k : ℕ) → k ≤ n → (states w s k).cycle ≡ s.cycle + k

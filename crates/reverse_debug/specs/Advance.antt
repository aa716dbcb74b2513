-- How a machine goes forward (the project's own).
use Rattle.std.specs.Prelude.{◌≡◌, ◌≤◌, ◌<◌, ℕ, ◌+◌, ◌-◌, false, Option, IfSome, IfNone, Some, None}
use Rattle.rp_base.specs.declared.Why.{Why}
use Rattle.outer_lane.specs.Setting.{Setting}
use Rattle.rp_machine.specs.State.{State}
use Rattle.rp_machine.specs.Cycle.{stop}
use Rattle.rp_machine.specs.Run.{states}
use Rattle.reverse_debug.specs.Command.{Watched}
use Rattle.reverse_debug.specs.Reply.{seen, ends, ends_by}

-- the run from one state comes to another
pub record Path (w : Setting) (s t : State) : Type 0 where
  pub is : t ≡ states w s (t.cycle - s.cycle)
  pub forward : s.cycle ≤ t.cycle

-- so many cycles were stepped as the state moved
abbrev pub CountsMove : State → State → ℕ → ℕ → Type 0
CountsMove old new before after = after + old.cycle ≡ before + new.cycle

-- from one state to another, at most to a cycle, and a step for each cycle; with a cause only where that is the first stop below it
pub record Advances (w : Setting) (old : State) (to : ℕ) (new : State) (result : Option Why) (before after : ℕ) : Type 0 where
  pub path : Path w old new
  pub low : new.cycle ≤ w.limit
  pub within : new.cycle ≤ to
  pub stopped : IfSome result (λ why. (stop w new ≡ Some why) × (new.cycle < to))
  pub count : CountsMove old new before after

-- a move forward ends behind none of so many cycles from a state on
abbrev pub NoneEnds : Setting → Watched → State → ℕ → Type 0
NoneEnds w watched s n = (k : ℕ) → k < n → ends w s watched k ≡ false

-- on the way from one state to another it ends behind no cycle, but maybe behind the last one where it has come to no stop
abbrev pub EndsAtLast : Setting → Watched → State → State → Option Why → Type 0
EndsAtLast w watched old new None = NoneEnds w watched old (new.cycle - old.cycle - 1)
EndsAtLast w watched old new (Some why) = NoneEnds w watched old (new.cycle - old.cycle)

-- so it went, at most to the first cycle behind which a move forward ends; without a cause it went on by a cycle at least
pub record Approaches (w : Setting) (watched : Watched) (old : State) (to : ℕ) (new : State) (result : Option Why) (before after : ℕ) : Type 0 where
  pub way : Advances w old to new result before after
  pub ahead : IfNone result (old.cycle < new.cycle)
  pub none : EndsAtLast w watched old new result

-- what was seen before is as good as what is seen of a state
abbrev pub SeesAs : Watched → ℕ → State → Type 0
SeesAs watched before s = (after : ℕ) → ends_by watched before after ≡ ends_by watched (seen watched s) after

-- Cycles in which the engine is quiet: it begins nothing and moves nothing, as long as the counts that pace its channels stay. Only the
-- pacing timers step, and none gives a credit (RP2040 Datasheet, 2.5.3.2).
use Rattle.std.specs.Prelude.{◌≡◌, ℕ, suc, ◌<◌, false, List, [], ◌∷◌, map}
use Rattle.std.specs.List.{list_any}
use Rattle.lane_look.specs.declared.lane.Ask.{Ask}
use Rattle.lane_look.specs.declared.lane.Ask.TheVariants.{Pacing}
use Rattle.lane_look.specs.declared.lane.Turn.{Turn}
use Rattle.lane_look.specs.declared.lane.Want.TheVariants as want
use Rattle.lane_look.specs.Asking.{answered}
use Rattle.lane_look.specs.Times.{times}
use Rattle.dma_engine.specs.declared.timer.PacingTimer.{PacingTimer}
use Rattle.dma_engine.specs.State.{State}
use Rattle.dma_engine.specs.Timer.{gives, stepped}
use Rattle.dma_engine.specs.Asks.{asks}
use Rattle.dma_engine.specs.Cycle.{wanted, next}

-- a timer has stepped so many times
abbrev pub timer_after : ℕ → PacingTimer → PacingTimer
timer_after n t = times (λ cycle. stepped) 0 n t

-- the engine, in which the timers alone have stepped so many times
abbrev pub engine_after : ℕ → State → State
engine_after n s = record s { timers = map (timer_after n) s.timers }

-- no timer gives a credit in so many cycles
pub record GivesNone (s : State) (n : ℕ) : Type 0 where
  pub credits : (k : ℕ) → k < n → list_any gives (engine_after k s).timers ≡ false

-- as long as the counts are these, it wants nothing in so many cycles, and its timers alone step, whatever its other answers are
pub record IsQuiet (counts : ℕ) (s : State) (n : ℕ) : Type 0 where
  pub credits : GivesNone s n
  pub wants : (k : ℕ) → k < n → (answer : Ask → ℕ) → answer Pacing ≡ counts
      → wanted (answered answer (asks (engine_after k s))) ≡ want.Nothing ∷ want.Nothing ∷ []
  pub steps : (k : ℕ) → k < n → (answer : Ask → ℕ) → answer Pacing ≡ counts → (turns : List Turn)
      → next (engine_after k s) (answered answer (asks (engine_after k s))) turns ≡ engine_after (suc k) s

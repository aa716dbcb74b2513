-- What must come before something of the engine moves: a write of a register, a credit of a pacing timer, or other counts of those that
-- pace its channels (RP2040 Datasheet, 2.5.3.2).
use Rattle.std.specs.Prelude.{◌≡◌, ℕ, ◌<◌, Bool, true, false, not, ◌&&◌, ◌||◌, ◌==◌, nat_lt, length, is_none}
use Rattle.std.specs.List.{list_all, list_any}
use Rattle.lane_look.specs.Steps.{NeverActs}
use Rattle.dma_engine.specs.declared.channel.Channel.{Channel}
use Rattle.dma_engine.specs.declared.awaited.Awaited.{Awaited}
use Rattle.dma_engine.specs.declared.awaited.Awaited.TheVariants as awaited
use Rattle.dma_engine.specs.Control.{treq_of}
use Rattle.dma_engine.specs.Requests.{pace_of}
use Rattle.dma_engine.specs.Timer.{runs}
use Rattle.dma_engine.specs.Asks.{asks}
use Rattle.dma_engine.specs.Choice.{is_candidate}
use Rattle.dma_engine.specs.Cycle.{uses_credits, is_over, wanted, next}
use Rattle.dma_engine.specs.State.{State, at_reset}

-- the channel is paced by a timer, and has no credit
abbrev pub lacks_credit : Channel → Bool
lacks_credit c = uses_credits (pace_of (treq_of c)) && (not (nat_lt (treq_of c) 0x3B) && c.credits == 0)

-- it is idle, or has transfers left for which it lacks a credit
abbrev pub awaits_credit : Channel → Bool
awaits_credit c = not c.busy || (not (c.count == 0) && lacks_credit c)

-- no channel is chosen, no write waits, and every channel is idle or lacks a credit
unfoldable pub awaits_credits : State → Bool
awaits_credits s = is_none s.chosen && (length s.waiting == 0 && list_all awaits_credit s.channels)

-- with these counts, none of the channels below a number can be chosen or is over
pub record NoneMoves (counts : ℕ) (s : State) (n : ℕ) : Type 0 where
  pub choice : (k : ℕ) → k < n → is_candidate false counts s k ≡ false
  pub ends : (k : ℕ) → k < n → is_over s k ≡ false

-- nothing moves before this comes
abbrev pub Awaits : Awaited → State → Type 0
Awaits awaited.Nothing s = Unit {0}
Awaits awaited.RegisterWrite s = (awaits_credits s ≡ true) × (list_any runs s.timers ≡ false)
Awaits awaited.Credit s = awaits_credits s ≡ true
Awaits (awaited.OtherCounts counts) s = NoneMoves counts s 12 × (list_any runs s.timers ≡ false)

-- in its reset state, and so where it is held, the engine asks nothing, wants nothing and stays as it is
abbrev pub AnEngineAtResetNeverActs : Type 0
AnEngineAtResetNeverActs = NeverActs (λ s cycle. asks s) wanted next at_reset

-- A cycle is its transfers, and then the timers with the credits that were found at the start.
use Rattle.std.proofs.Common.{◌≡◌, ℕ, ◌<◌, Bool, false, List, length, ap, ◌∙◌, get_or, Some}
use Rattle.std.specs.Prelude.{slice_get}
use Rattle.std.proofs.lemmas.Option.{slice_get-get_or}
use Rattle.lane_look.specs.declared.lane.Turn.{Turn}
use Rattle.lane_look.specs.declared.lane.Turn.TheVariants as turn
use Rattle.dma_engine.specs.declared.begun.BegunTransfer.{BegunTransfer}
use Rattle.dma_engine.specs.State.{State}
use Rattle.dma_engine.specs.Timer.{gets_credit, after_timers}
use Rattle.dma_engine.specs.Cycle.{after_transfers, next}
use Rattle.dma_engine.proofs.InTurn.{after_timers-same}

pub finished : (s moved new : State) (begun : BegunTransfer) (turns : List Turn) (credits : List Bool) →
    ((k : ℕ) → k < 12 → get_or credits k false ≡ gets_credit s k) → moved ≡ after_transfers s begun turns →
    new ≡ after_timers (λ k. get_or credits k false) moved → new ≡ next s begun turns
unfolding next
finished s moved new begun turns credits told is last =
    last ∙ after_timers-same (λ k. get_or credits k false) (gets_credit s) moved told
    ∙ ap (after_timers (gets_credit s)) is

-- the turn of an access
pub turn_at : (turns : List Turn) (k : ℕ) → k < length turns → slice_get turns k ≡ Some (get_or turns k turn.Nothing)
turn_at turns k h = slice_get-get_or turns k turn.Nothing h

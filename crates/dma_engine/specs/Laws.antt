-- What the choice comes to (RP2040 Datasheet, 2.5.1.1 and 2.5.7, HIGH_PRIORITY): of the channels that can be chosen, one of
-- high priority comes before all others, and of those of one priority the one whose turn comes first after the channel that
-- was chosen last.
use Rattle.std.specs.Prelude.{◌≡◌, ℕ, ◌+◌, ◌-◌, ◌%◌, ◌<◌, ◌≤◌, ◌⊎◌, Bool, true, false, Option, Some, None}
use Rattle.dma_engine.specs.Choice.{is_candidate, choice_of}
use Rattle.dma_engine.specs.State.{State}

-- how many channels have their turn before that one, where channel 0 follows channel 11
abbrev pub turns_before : ℕ → ℕ → ℕ
turns_before last n = (n + 11 - last % 12) % 12

-- no channel of that kind can be chosen
abbrev pub IsNone : Bool → ℕ → State → Type 0
IsNone high counts s = (m : ℕ) → m < 12 → is_candidate high counts s m ≡ false

-- the channel can be chosen, and none of that kind that can has its turn before it
pub record IsFirst (high : Bool) (counts : ℕ) (s : State) (n : ℕ) : Type 0 where
  pub number : n < 12
  pub candidate : is_candidate high counts s n ≡ true
  pub first : (m : ℕ) → m < 12 → is_candidate high counts s m ≡ true → turns_before s.last_chosen n ≤ turns_before s.last_chosen m

abbrev pub IsChoice : ℕ → State → Option ℕ → Type 0
IsChoice counts s None = IsNone false counts s
IsChoice counts s (Some n) = IsFirst true counts s n ⊎ (IsNone true counts s × IsFirst false counts s n)

abbrev pub TheChoiceComesFirst : Type 0
TheChoiceComesFirst = (counts : ℕ) (s : State) → IsChoice counts s (choice_of counts s)

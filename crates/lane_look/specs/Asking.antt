-- What a lane asks in a cycle, as an interaction tree.
use Rattle.std.specs.Prelude.{◌≡◌, ℕ, zero, suc}
use Rattle.lane_look.specs.declared.lane.Ask.{Ask}

-- what was begun, once every question is answered; or the next question, and what follows each answer
pub data Asking (B : Type 0) : Type 0 where
  Ready : (begun : B) → Asking B
  Question : (ask : Ask) → (next : ℕ → Asking B) → Asking B

-- a look, which answers by this relation, gives the questions their answers in turn; this was begun, and this look is left
abbrev pub Runs : {K B : Type 0} → (K → Ask → ℕ → K → Type 0) → K → Asking B → B → K → Type 0
Runs answers old (Ready begun) result new = (new ≡ old) × (result ≡ begun)
Runs {K} answers old (Question ask next) result new =
    (x : ℕ) × (mid : K) × answers old ask x mid × Runs answers mid (next x) result new

-- what is begun where a function gives the answers
abbrev pub answered : {B : Type 0} → (Ask → ℕ) → Asking B → B
answered f (Ready begun) = begun
answered f (Question ask next) = answered f (next (f ask))

-- at most so many questions, whatever they are answered
abbrev pub AsksAtMost : {B : Type 0} → ℕ → Asking B → Type 0
AsksAtMost count (Ready begun) = Unit {0}
AsksAtMost zero (Question ask next) = ⊥
AsksAtMost (suc count) (Question ask next) = (x : ℕ) → AsksAtMost count (next x)

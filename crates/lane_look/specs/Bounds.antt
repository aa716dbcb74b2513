-- Lemmas for the law of the questions: a bound of a tree from the bounds of its parts.
use Rattle.std.proofs.Common.{ℕ, suc, Bool, true, false, if◌then◌else◌}
use Rattle.lane_look.specs.declared.lane.Ask.{Ask}
use Rattle.lane_look.specs.Asking.{Asking, AsksAtMost}
use Rattle.lane_look.specs.Asking.Asking.{Ready, Question}

-- at most so many questions, as a record, so that the tree is found
pub record Few {B : Type 0} (n : ℕ) (tree : Asking B) : Type 0 where
  pub few : AsksAtMost n tree

pub few_ready : {B : Type 0} (n : ℕ) (begun : B) → Few n (Ready begun)
few_ready n begun = record { few = tt }

pub few_ask : {B : Type 0} (n : ℕ) (ask : Ask) (next : ℕ → Asking B) → ((x : ℕ) → Few n (next x)) → Few (suc n) (Question ask next)
few_ask n ask next few = record { few = λ x. (few x).few }

pub few_if : {B : Type 0} (n : ℕ) (b : Bool) (t u : Asking B) → Few n t → Few n u → Few n (if b then t else u)
few_if n true t u p q = p
few_if n false t u p q = q

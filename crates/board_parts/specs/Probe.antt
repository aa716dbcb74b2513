-- What a probe does, as functions of its state, a list of numbers, and of what it is handed. The project's own.
use Rattle.std.specs.Prelude.{ℕ, ◌+◌, ◌-◌, ◌^◌, Bool, List, min}

pub record ProbeMeaning : Type 0 where
  -- the state once it is aimed, by the number of the pin
  pub aimed : ℕ → List ℕ
  -- the state after a change of its pin, by the cycle, the level after the change (true where it is high) and the state before
  pub next : ℕ → Bool → List ℕ → List ℕ
  -- what it shows of a state
  pub text : List ℕ → List ℕ

-- one more of a count, which stands still at the end of 64 bits
abbrev pub one_more : ℕ → ℕ
one_more count = min (count + 1) (2 ^ 64 - 1)

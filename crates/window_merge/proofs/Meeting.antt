-- The least number that meets a test is within its bound.
use Rattle.std.proofs.Common.{◌≡◌, ℕ, zero, suc, ◌+◌, ◌<◌, ◌≤◌, Bool, true, if◌then◌else◌, refl, arith}
use Rattle.lane_look.specs.Alone.{first_from, least}

pub record Meets (test : ℕ → Bool) (bound k : ℕ) : Type 0 where
  pub within : k ≤ bound
  pub met : k < bound → test k ≡ true

meets_by : (test : ℕ → Bool) (from count rest : ℕ) (b : Bool) → test from ≡ b → Meets test (suc from + count) rest
    → Meets test (from + suc count) (if b then from else rest)
meets_by test from count rest b h1 h2 = grind arith

first_meets : (test : ℕ → Bool) (from count : ℕ) → Meets test (from + count) (first_from test from count)
first_meets test from zero = record { within = omega arith; met = λ lt. absurd (omega arith) }
first_meets test from (suc count) =
    meets_by test from count (first_from test (suc from) count) (test from) refl (first_meets test (suc from) count)

pub least_meets : (test : ℕ → Bool) (bound : ℕ) → Meets test bound (least test bound)
unfolding least
least_meets test bound = search (arith, first_meets)

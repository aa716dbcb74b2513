-- The least number that meets a test.
use Rattle.std.proofs.Common.{◌≡◌, ◌≢◌, ℕ, zero, suc, ◌+◌, ◌<◌, ◌≤◌, Bool, true, false, inl, inr, refl, arith}
use Rattle.std.proofs.lemmas.Bool.Decides.{eqb_tells}
use Rattle.lane_look.specs.Alone.{first_from, least}

first_found : (test : ℕ → Bool) (from count k : ℕ) → from ≤ k → k ≤ from + count → ((j : ℕ) → j < k → test j ≡ false) → (k < from + count → test k ≡ true) → first_from test from count ≡ k
first_found test from zero k low high none here = omega arith
first_found test from (suc count) k low high none here = elim (eqb_tells from k) [
  | inl e ↦ let same : from ≡ k = e.1 in
      let yes : test k ≡ true = here (omega arith) in
      rw (same, yes) refl
  | inr e ↦ let ne : from ≢ k = e.1 in
      let below : from < k = omega arith in
      rw (none from below) (first_found test (suc from) count k (omega arith) (omega arith) none (λ lt. here (omega arith)))
]

-- a number at most the bound, below which nothing meets the test, and which meets it where it is below the bound
pub is_least : (test : ℕ → Bool) (bound k : ℕ) → k ≤ bound → ((j : ℕ) → j < k → test j ≡ false) → (k < bound → test k ≡ true) → least test bound ≡ k
unfolding least
is_least test bound k le none here = first_found test 0 bound k (omega arith) (omega arith) none (λ lt. here (omega arith))

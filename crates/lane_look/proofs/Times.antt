-- Cycle after cycle.
use Rattle.std.proofs.Common.{◌≡◌, ℕ, zero, suc, ◌+◌, ◌<◌, ◌≤◌, refl, ap, ◌∙◌, arith}
use Rattle.lane_look.specs.Times.{times}

pub times_none : {S : Type 0} (step : ℕ → S → S) (first n : ℕ) (s : S) → n ≡ 0 → times step first n s ≡ s
unfolding times
times_none step first zero s e = refl
times_none step first (suc n) s e = absurd (omega arith)

-- one cycle more at the end
pub times_more : {S : Type 0} (step : ℕ → S → S) (first n m : ℕ) (s : S) → m ≡ n + 1 → times step first m s ≡ step (first + n) (times step first n s)
unfolding times
times_more step first n zero s e = absurd (omega arith)
times_more step first n (suc m) s e = let same : m ≡ n = omega arith in rw same refl

pub times_add : {S : Type 0} (step : ℕ → S → S) (first n m : ℕ) (s : S) → times step first (n + m) s ≡ times step (first + n) m (times step first n s)
unfolding times
times_add step first n zero s = let e : n + 0 ≡ n = omega arith in rw e refl
times_add step first n (suc m) s =
    let e : n + suc m ≡ suc (n + m) = omega arith in
    let f : first + (n + m) ≡ (first + n) + m = omega arith in
    rw (e, f) (ap (step ((first + n) + m)) (times_add step first n m s))

-- where after k cycles it is `after k`, for each k up to n
pub times_closed : {S : Type 0} (step : ℕ → S → S) (first : ℕ) (s : S) (n : ℕ) (after : ℕ → S) → after 0 ≡ s → ((k : ℕ) → k < n → step (first + k) (after k) ≡ after (suc k)) → (k : ℕ) → k ≤ n → times step first k s ≡ after k
unfolding times
times_closed step first s n after none more zero le = rw none refl
times_closed step first s n after none more (suc k) le =
    ap (step (first + k)) (times_closed step first s n after none more k (omega arith)) ∙ more k (omega arith)

-- what no cycle changes
pub times_rest : {S : Type 0} (step : ℕ → S → S) (first n : ℕ) (s : S) → ((cycle : ℕ) → step cycle s ≡ s) → times step first n s ≡ s
unfolding times
times_rest step first zero s still = refl
times_rest step first (suc n) s still = ap (step (first + n)) (times_rest step first n s still) ∙ still (first + n)

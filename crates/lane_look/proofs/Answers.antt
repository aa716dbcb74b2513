-- A look that always answers by one function, and stays the same.
use Rattle.std.proofs.Common.{◌≡◌, ℕ, subst}
use Rattle.lane_look.specs.declared.lane.Ask.{Ask}
use Rattle.lane_look.specs.Asking.{Asking, Runs, answered}
use Rattle.lane_look.specs.Asking.Asking.{Ready, Question}

-- such a look begins what the function gives
pub runs_answered : {K B : Type 0} (answers : K → Ask → ℕ → K → Type 0) (f : Ask → ℕ) (k : K) → ((ask : Ask) (x : ℕ) (k' : K) → answers k ask x k' → (x ≡ f ask) × (k' ≡ k)) → (tree : Asking B) (result : B) (new : K) → Runs answers k tree result new → result ≡ answered f tree
runs_answered answers f k h (Ready begun) result new r = r.1
runs_answered {K} {B} answers f k h (Question ask next) result new r =
    let told = h ask r.0 r.1 r.2 in
    let here : Runs answers k (next r.0) result new = subst (λ (m : K). Runs answers m (next r.0) result new) told.1 r.3 in
    let there : Runs answers k (next (f ask)) result new = subst (λ (x : ℕ). Runs answers k (next x) result new) told.0 here in
    runs_answered answers f k h (next (f ask)) result new there

-- Cycle after cycle.
use Rattle.std.specs.Prelude.{◌≡◌, ℕ, zero, suc, ◌+◌}

-- so many cycles from a first one on
unfoldable pub times : {S : Type 0} → (ℕ → S → S) → ℕ → ℕ → S → S
times step first zero s = s
times step first (suc n) s = step (first + n) (times step first n s)

-- n + m cycles are n cycles and then m
abbrev pub CyclesFollowEachOther : {S : Type 0} → (ℕ → S → S) → Type 0
CyclesFollowEachOther {S} step =
    (first n m : ℕ) (s : S) → times step first (n + m) s ≡ times step (first + n) m (times step first n s)

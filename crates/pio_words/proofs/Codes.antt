use Rattle.std.proofs.Common.{◌≡◌, ◌==◌, ℕ, ◌+◌, List, [], ◌∷◌, Option, None, Some, Bool, true, false, ◌&&◌, suc, zero, arith, sym, ap, refl}
use Rattle.pio_words.specs.Table.{entry}

-- each named entry of a table has its place, counted from `base`, as its code
abbrev pub are_numbered : {X : Type 0} → (X → ℕ) → ℕ → List (Option X) → Bool
are_numbered code base [] = true
are_numbered code base (None ∷ table) = are_numbered code (suc base) table
are_numbered code base (Some x ∷ table) = (code x == base) && are_numbered code (suc base) table

both : (a b : Bool) → (a && b) ≡ true → (a ≡ true) × (b ≡ true)
both true b h = (refl, h)
both false b h = cc

equal : (m n : ℕ) → (m == n) ≡ true → m ≡ n
equal m n h = grind arith

-- a named entry stands at its code
pub code-entry : {X : Type 0} (code : X → ℕ) (base : ℕ) (table : List (Option X)) (n : ℕ) (x : X) → are_numbered code base table ≡ true → entry table n ≡ Some x → code x ≡ base + n
code-entry code base [] n x t h = cc
code-entry code base (None ∷ table) zero x t h = cc
code-entry code base (None ∷ table) (suc n) x t h = omega (arith, code-entry code (suc base) table n x t h)
code-entry code base (Some y ∷ table) zero x t h = let e : y ≡ x = cc in let f : code y ≡ base = equal (code y) base (both (code y == base) (are_numbered code (suc base) table) t).0 in omega (arith, sym (ap code e), f)
code-entry code base (Some y ∷ table) (suc n) x t h = omega (arith, code-entry code (suc base) table n x (both (code y == base) (are_numbered code (suc base) table) t).1 h)

-- a name stands in a numbered table once
pub one-entry : {X : Type 0} (code : X → ℕ) (table : List (Option X)) (m n : ℕ) (x : X) → are_numbered code 0 table ≡ true → entry table m ≡ Some x → entry table n ≡ Some x → m ≡ n
one-entry code table m n x t a b = omega (arith, code-entry code 0 table m x t a, code-entry code 0 table n x t b)

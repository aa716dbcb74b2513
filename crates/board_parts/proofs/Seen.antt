-- Values of a list that are changed one after another, as a view shows them.
use Rattle.std.proofs.Common.{◌≡◌, ℕ, zero, suc, ◌+◌, ◌<◌, List, [], ◌∷◌, ◌++◌, length, map, take, drop, slice_index_or, slice_set, arith}
use Rattle.std.proofs.lemmas.Grind.{common_steps}

-- the first i are changed, and now the next one is
pub next_changed : {A B : Type 0} (view : A → B) (f : B → B) (now : List A) (start : List B) (i j : ℕ) (x y : A) → j ≡ i + 1 → i < length now
    → map view now ≡ map f (take i start) ++ drop i start → view y ≡ f (view (slice_index_or now i x))
    → map view (slice_set now i y) ≡ map f (take j start) ++ drop j start
next_changed view f now start i zero x y e small same new = absurd (omega arith)
next_changed view f [] start i (suc j) x y e small same new = absurd (omega arith)
next_changed view f (a ∷ now) [] zero (suc j) x y e small same new = grind (arith, common_steps)
next_changed view f (a ∷ now) [] (suc i) (suc j) x y e small same new = grind (arith, common_steps)
next_changed view f (a ∷ now) (b ∷ start) zero (suc j) x y e small same new =
    let none : j ≡ 0 = omega arith in
    rw none (grind (arith, common_steps, same, new))
next_changed view f (a ∷ now) (b ∷ start) (suc i) (suc j) x y e small same new =
    let tails : map view now ≡ map f (take i start) ++ drop i start = grind (arith, common_steps, same) in
    let rest : map view (slice_set now i y) ≡ map f (take j start) ++ drop j start =
    next_changed view f now start i j x y (omega arith) (omega arith) tails new in
    grind (arith, common_steps, same, rest)

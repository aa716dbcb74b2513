-- A list of parts by its first one and the rest, as a view shows them.
use Rattle.std.proofs.Common.{◌≡◌, ◌-◌, ◌<◌, ◌≤◌, List, [], ◌∷◌, length, map, take, drop, get_or, refl, arith}
use Rattle.std.proofs.lemmas.List.{take_all}

-- the first one, and the rest
pub viewed : {A B : Type 0} (view : A → B) (list : List A) (first : A) → 1 ≤ length list → first ≡ get_or list 0 first
    → map view list ≡ view first ∷ map view (take (length list - 1) (drop 1 list))
viewed view [] first some is = absurd (omega arith)
viewed view (x ∷ list) first some is =
    let rest : take (length (x ∷ list) - 1) list ≡ list = take_all (length (x ∷ list) - 1) list (omega arith) in
    rw (rest, is) refl

-- one alone
pub viewed_alone : {A B : Type 0} (view : A → B) (list : List A) (only : A) → 1 ≤ length list → length list < 2 → only ≡ get_or list 0 only → map view list ≡ view only ∷ []
viewed_alone view [] only some few is = absurd (omega arith)
viewed_alone view (x ∷ []) only some few is = rw is refl
viewed_alone view (x ∷ y ∷ list) only some few is = absurd (omega (arith, few))

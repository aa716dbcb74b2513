-- A list of four elements.
use Rattle.std.proofs.Common.{◌≡◌, List, [], ◌∷◌, length, refl, arith, get_or}
use Rattle.std.specs.Prelude.{map}

pub map-four : {X Y : Type 0} (f : X → Y) (xs : List X) (d : X) → length xs ≡ 4 →
    map f xs ≡ f (get_or xs 0 d) ∷ f (get_or xs 1 d) ∷ f (get_or xs 2 d) ∷ f (get_or xs 3 d) ∷ []
map-four f (a ∷ b ∷ c ∷ e ∷ []) d h = refl
map-four f _ d h = absurd (omega arith)

pub ruleset four = (map-four)

-- Stacks, as lists with the newest item first (the project's own).
use Rattle.std.specs.Prelude.{◌≡◌, List, [], ◌∷◌, Option, None, Some}

-- the newest item was taken off, if there was one
abbrev pub HasPopped : {X : Type 0} → Option X → List X → List X → Type 0
HasPopped None old new = (old ≡ []) × (new ≡ [])
HasPopped (Some item) old new = old ≡ item ∷ new

abbrev pub newest : {X : Type 0} → List X → Option X
newest [] = None
newest (item ∷ stack) = Some item

-- What a probe hears, in other words than the definition.
use Rattle.std.specs.Prelude.{◌≡◌, ◌≢◌, ◌∷◌, [], List, ◌++◌}
use Rattle.board_parts.specs.Hearing.{Aim, after_hearing}
use Rattle.board_parts.specs.declared.change.PinChange.{PinChange}

-- a probe that hears some changes and then others is as one that hears all of them
abbrev pub HearsInTurn : Type 0
HearsInTurn = (a : Aim) (first second : List PinChange) → after_hearing second (after_hearing first a) ≡ after_hearing (first ++ second) a

-- a change of another pin leaves a probe as it was
abbrev pub HearsItsOwn : Type 0
HearsItsOwn = (a : Aim) (change : PinChange) → change.pin ≢ a.pin → after_hearing (change ∷ []) a ≡ a

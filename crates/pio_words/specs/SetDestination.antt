-- The destinations of SET (RP2040 Datasheet, 3.4.10).
use Rattle.std.specs.Prelude.{List, [], ◌∷◌, Option, Some, None}
use Rattle.pio_words.specs.declared.op.SetDestination.{SetDestination}
use Rattle.pio_words.specs.declared.op.SetDestination.TheVariants.{Pins, X, Y, Pindirs}

-- the destinations of SET in the order of bits 7:5 (RP2040 Datasheet, 3.4.10)
abbrev pub set_destinations : List (Option SetDestination)
set_destinations = Some Pins ∷ Some X ∷ Some Y ∷ None ∷ Some Pindirs ∷ []

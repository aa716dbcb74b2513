-- The destinations of MOV (RP2040 Datasheet, 3.4.8).
use Rattle.std.specs.Prelude.{List, [], ◌∷◌, Option, Some, None}
use Rattle.pio_words.specs.declared.op.MovDestination.{MovDestination}
use Rattle.pio_words.specs.declared.op.MovDestination.TheVariants.{Pins, X, Y, Exec, Pc, Isr, Osr}

-- the destinations of MOV in the order of bits 7:5 (RP2040 Datasheet, 3.4.8)
abbrev pub mov_destinations : List (Option MovDestination)
mov_destinations = Some Pins ∷ Some X ∷ Some Y ∷ None ∷ Some Exec ∷ Some Pc ∷ Some Isr ∷ Some Osr ∷ []

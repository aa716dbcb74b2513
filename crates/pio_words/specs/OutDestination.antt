-- The destinations of OUT (RP2040 Datasheet, 3.4.5).
use Rattle.std.specs.Prelude.{List, [], ◌∷◌, Option, Some}
use Rattle.pio_words.specs.declared.op.OutDestination.{OutDestination}
use Rattle.pio_words.specs.declared.op.OutDestination.TheVariants.{Pins, X, Y, Null, Pindirs, Pc, Isr, Exec}

-- the destinations of OUT in the order of bits 7:5 (RP2040 Datasheet, 3.4.5)
abbrev pub out_destinations : List (Option OutDestination)
out_destinations = Some Pins ∷ Some X ∷ Some Y ∷ Some Null ∷ Some Pindirs ∷ Some Pc ∷ Some Isr ∷ Some Exec ∷ []

-- The sources of IN (RP2040 Datasheet, 3.4.4).
use Rattle.std.specs.Prelude.{List, [], ◌∷◌, Option, Some, None}
use Rattle.pio_words.specs.declared.op.InSource.{InSource}
use Rattle.pio_words.specs.declared.op.InSource.TheVariants.{Pins, X, Y, Null, Isr, Osr}

-- the sources of IN in the order of bits 7:5 (RP2040 Datasheet, 3.4.4)
abbrev pub in_sources : List (Option InSource)
in_sources = Some Pins ∷ Some X ∷ Some Y ∷ Some Null ∷ None ∷ None ∷ Some Isr ∷ Some Osr ∷ []

-- The sources of MOV (RP2040 Datasheet, 3.4.8).
use Rattle.std.specs.Prelude.{List, [], ◌∷◌, Option, Some, None}
use Rattle.pio_words.specs.declared.op.MovSource.{MovSource}
use Rattle.pio_words.specs.declared.op.MovSource.TheVariants.{Pins, X, Y, Null, Status, Isr, Osr}

-- the sources of MOV in the order of bits 2:0 (RP2040 Datasheet, 3.4.8)
abbrev pub mov_sources : List (Option MovSource)
mov_sources = Some Pins ∷ Some X ∷ Some Y ∷ Some Null ∷ None ∷ Some Status ∷ Some Isr ∷ Some Osr ∷ []

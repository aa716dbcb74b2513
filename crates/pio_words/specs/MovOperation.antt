-- The operations of MOV (RP2040 Datasheet, 3.4.8).
use Rattle.std.specs.Prelude.{List, [], ◌∷◌, Option, Some}
use Rattle.pio_words.specs.declared.op.MovOperation.{MovOperation}
use Rattle.pio_words.specs.declared.op.MovOperation.TheVariants.{Plain, Invert, Reverse}

-- the operations of MOV in the order of bits 4:3 (RP2040 Datasheet, 3.4.8)
abbrev pub mov_operations : List (Option MovOperation)
mov_operations = Some Plain ∷ Some Invert ∷ Some Reverse ∷ []

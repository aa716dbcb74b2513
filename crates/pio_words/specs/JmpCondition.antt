-- The conditions of JMP (RP2040 Datasheet, 3.4.2).
use Rattle.std.specs.Prelude.{List, [], ◌∷◌, Option, Some}
use Rattle.pio_words.specs.declared.op.JmpCondition.{JmpCondition}
use Rattle.pio_words.specs.declared.op.JmpCondition.TheVariants.{Always, XZero, XDecrement, YZero, YDecrement, XNotY, Pin, OsrNotEmpty}

-- the conditions of JMP in the order of bits 7:5 (RP2040 Datasheet, 3.4.2)
abbrev pub conditions : List (Option JmpCondition)
conditions = Some Always ∷ Some XZero ∷ Some XDecrement ∷ Some YZero ∷ Some YDecrement ∷ Some XNotY ∷ Some Pin ∷ Some OsrNotEmpty ∷ []

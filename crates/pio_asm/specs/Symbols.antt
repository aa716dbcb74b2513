-- Names with their values: those of `.define` and of labels (RP2040 Datasheet, 3.3, Values and Labels).
use Rattle.std.specs.Prelude.{ℤ, Option}
use Rattle.source_text.specs.Symbols.{Symbols}

-- a name whose definition has a fault has no value
abbrev pub Names : Type 0
Names = Symbols (Option ℤ)

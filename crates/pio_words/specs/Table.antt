-- A table of what the values of a field name (RP2040 Datasheet, 3.4.2 to 3.4.10).
use Rattle.std.specs.Prelude.{ℕ, List, Option, None, slice_index_or}

-- the entry of a table at a field's value: None where the table has a dash, and past its end
abbrev pub entry : {X : Type 0} → List (Option X) → ℕ → Option X
entry table n = slice_index_or table n None

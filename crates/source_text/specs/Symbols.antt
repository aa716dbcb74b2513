-- Names with their values (the project's own).
use Rattle.std.specs.Prelude.{ℕ, List, [], ◌∷◌, Option, None, Some, if◌then◌else◌}
use Rattle.std.specs.Option.{option_map_or}
use Rattle.std.specs.Str.{bytes_eq}
use Rattle.std.specs.Ordering.{nat_cmp}
use Rattle.std.specs.Cmp.Lexicographic.{slice_cmp}
use Rattle.std.specs.BTreeMap.{insert_entry}

-- names with their values, in the order of the names' bytes
abbrev pub Symbols : Type 0 → Type 0
Symbols V = List (List ℕ × V)

-- the value of a name, if it is there
abbrev pub found : {V : Type 0} → List ℕ → Symbols V → Option V
found name [] = None
found name (symbol ∷ symbols) = if bytes_eq name symbol.0 then Some symbol.1 else found name symbols

-- one more name with its value: it takes its turn in the order
abbrev pub put : {V : Type 0} → List ℕ → V → Symbols V → Symbols V
put name value symbols = insert_entry (slice_cmp nat_cmp) symbols name value

-- a definition: the first one of a name counts
abbrev pub defined : {V : Type 0} → List ℕ → V → Symbols V → Symbols V
defined name value symbols = option_map_or (λ first. symbols) (found name symbols) (put name value symbols)

-- The files of a shelf in memory, and when it fails.
use Rattle.std.specs.Prelude.{◌≡◌, ℕ, List, [], ◌∷◌, Option, Some, None, Contains, ◌⊎◌, if◌then◌else◌, IsSome}
use Rattle.std.specs.Str.{bytes_eq}
use Rattle.std.specs.String.{string_bytes}
use Rattle.rp_ports.specs.declared.mem_shelf.HeldFile.{HeldFile}
use Rattle.rp_ports.specs.declared.shelf.Loaded.{Loaded}
use Rattle.rp_ports.specs.declared.shelf.Loaded.TheVariants.{Done, Large, Failed, Memory}

-- the bytes of the first file of that name
abbrev pub file_in : List HeldFile → List ℕ → Option (List ℕ)
file_in [] name = None
file_in (f ∷ fs) name = if bytes_eq (string_bytes f.name) name then Some f.bytes.items else file_in fs name

-- A call fails where it is listed or where the name is not held, and nowhere else
-- (failing: the listed calls, call: this one's number, found: the file of the name).
abbrev pub FailsWhereListed : List ℕ → ℕ → Option (List ℕ) → Loaded → Type 0
FailsWhereListed failing call found Failed = Contains failing call ⊎ (found ≡ None)
FailsWhereListed failing call found Done = (Contains failing call → ⊥) × IsSome found
FailsWhereListed failing call found (Large n) = (Contains failing call → ⊥) × IsSome found
FailsWhereListed failing call found Memory = Unit {0}

-- the answer is Failed or Memory
abbrev pub FailsOrRunsOut : Loaded → Type 0
FailsOrRunsOut answer = (answer ≡ Failed) ⊎ (answer ≡ Memory)

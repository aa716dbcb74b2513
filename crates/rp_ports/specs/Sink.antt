-- What a sink has written, and what a put may answer.
use Rattle.std.specs.Prelude.{◌≡◌, ℕ, ◌<◌, ◌≤◌, List, ◌++◌, length, take, Option}
use Rattle.std.specs.Option.{option_map}
use Rattle.rp_ports.specs.Fault.{Rose}
use Rattle.rp_ports.specs.declared.sink.Put.{Put}
use Rattle.rp_ports.specs.declared.sink.Put.TheVariants.{Took, Failed}

-- these bytes were written behind the old ones, where the sink tells what it has written
abbrev pub Appends : Option (List ℕ) → Option (List ℕ) → List ℕ → Type 0
Appends old new bytes = new ≡ option_map (λ written. written ++ bytes) old

-- what the answer says of the bytes written: Took n writes the first n of the piece, at least one of a piece that is
-- not empty; Failed writes nothing
abbrev pub Writes : Option (List ℕ) → Option (List ℕ) → List ℕ → Put → Type 0
Writes old new piece (Took n) = (n ≤ length piece) × (0 < length piece → 0 < n) × Appends old new (take n piece)
Writes old new piece Failed = new ≡ old

-- what the answer says of the count of faults: it rises at Failed, and no other answer changes it
abbrev pub Counts : ℕ → ℕ → Put → Type 0
Counts before now (Took n) = now ≡ before
Counts before now Failed = (before ≤ now) × Rose before now

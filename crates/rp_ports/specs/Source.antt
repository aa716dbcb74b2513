-- What a source has left, and what a take may answer.
use Rattle.std.specs.Prelude.{◌≡◌, ℕ, ◌<◌, ◌≤◌, List, [], ◌++◌, length, take, Option, IfSome}
use Rattle.std.specs.Option.{option_map}
use Rattle.rp_ports.specs.Fault.{Rose}
use Rattle.rp_ports.specs.declared.source.Taken.{Taken}
use Rattle.rp_ports.specs.declared.source.Taken.TheVariants.{Took, End, Failed}

-- these bytes were the next ones and are no longer left, where the source tells what it has left
abbrev pub Consumes : Option (List ℕ) → Option (List ℕ) → List ℕ → Type 0
Consumes old new bytes = old ≡ option_map (λ left. bytes ++ left) new

-- no byte is left, where the source tells it
abbrev pub IsAtEnd : Option (List ℕ) → Type 0
IsAtEnd left = IfSome left (λ bytes. bytes ≡ [])

-- what the answer says of the bytes: Took n gives the next n in the first entries of the buffer, at least one; at End none is
-- left; Failed takes none
abbrev pub Takes : Option (List ℕ) → Option (List ℕ) → List ℕ → Taken → Type 0
Takes old new buf (Took n) = (0 < n) × (n ≤ length buf) × Consumes old new (take n buf)
Takes old new buf End = (new ≡ old) × IsAtEnd old
Takes old new buf Failed = new ≡ old

-- what the answer says of the count of faults: it rises at Failed, and no other answer changes it
abbrev pub Counts : ℕ → ℕ → Taken → Type 0
Counts before now (Took n) = now ≡ before
Counts before now End = now ≡ before
Counts before now Failed = (before ≤ now) × Rose before now

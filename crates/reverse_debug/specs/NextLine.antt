-- What a reader of lines gives next (the project's own).
use Rattle.std.specs.Prelude.{◌≡◌, ℕ, ◌+◌, ◌-◌, ◌<◌, ◌≤◌, ◌==◌, Bool, true, false, List, [], ◌∷◌, ◌++◌, length, take, Option}
use Rattle.rp_ports.specs.Fault.{Rose}
use Rattle.rp_ports.specs.Source.{Consumes, IsAtEnd}
use Rattle.rp_ports.specs.declared.source.Taken.{Taken}
use Rattle.rp_ports.specs.declared.source.Taken.TheVariants as taken
use Rattle.reverse_debug.specs.declared.reader.Next.{Next}
use Rattle.reverse_debug.specs.declared.reader.Next.TheVariants.{Line, Last, Failed, Full}

-- the bytes that were taken and stand in no line yet, and how many were taken in all
pub record Ahead : Type 0 where
  pub rest : List ℕ
  pub taken : ℕ

-- how many bytes stand in no line yet, of all that may be taken
abbrev pub behind : ℕ → Ahead → ℕ
behind limit a = (limit - a.taken) + length a.rest

-- none of the bytes is an LF
abbrev pub HasNoEnd : List ℕ → Type 0
HasNoEnd [] = Unit {0}
HasNoEnd (b ∷ bs) = ((b == 10) ≡ false) × HasNoEnd bs

-- Of a line so many bytes are given. Where it is longer, these are longer than each command too, also without a CR at their end.
abbrev pub given_bytes : ℕ
given_bytes = 257

-- the bytes up to an LF have gone from the rest into a line, and the LF is gone; or all have, where there is no LF
abbrev pub Passes : List ℕ → List ℕ → List ℕ → List ℕ → Bool → Type 0
Passes old new given given' true = (bytes : List ℕ) × HasNoEnd bytes × (old ≡ bytes ++ 10 ∷ new) × (given' ≡ take given_bytes (given ++ bytes))
Passes old new given given' false = HasNoEnd old × (new ≡ []) × (given' ≡ take given_bytes (given ++ old))

-- where no byte was left over, one take has brought some, or the source has ended or failed
abbrev pub Fills : ℕ → Ahead → Ahead → Option (List ℕ) → Option (List ℕ) → ℕ → ℕ → Taken → Type 0
Fills limit old new left left' lost lost' (taken.Took n) =
    (0 < n) × (new.taken ≡ old.taken + n) × (new.taken ≤ limit) × (length new.rest ≡ n) × Consumes left left' new.rest × (lost' ≡ lost)
Fills limit old new left left' lost lost' taken.End = (new.taken ≡ old.taken) × (new.rest ≡ []) × (left' ≡ left) × IsAtEnd left' × (lost' ≡ lost)
Fills limit old new left left' lost lost' taken.Failed = (new.taken ≡ old.taken) × (new.rest ≡ []) × (left' ≡ left) × (lost ≤ lost') × Rose lost lost'

-- these bytes are those of a line and its LF, and what is left over; or they are those of an open line, and nothing is left over
abbrev pub Splits : List ℕ → List ℕ → List ℕ → Next → Type 0
Splits bytes line rest Line = bytes ≡ line ++ 10 ∷ rest
Splits bytes line rest _ = (bytes ≡ line) × (rest ≡ [])

-- no LF came, since the source has ended, since a take failed, or since so many bytes were taken as may be; no other take failed
abbrev pub EndsBy : ℕ → ℕ → Option (List ℕ) → ℕ → ℕ → Next → Type 0
EndsBy limit count left before now Line = now ≡ before
EndsBy limit count left before now Last = (now ≡ before) × (count < limit) × IsAtEnd left
EndsBy limit count left before now Failed = (before ≤ now) × (count < limit) × Rose before now
EndsBy limit count left before now Full = (now ≡ before) × (limit ≤ count)

-- The reader took some bytes, at most up to the limit. Of those that were left over and these it has read the bytes of a line with its
-- LF, or all, and gives the first ones of the line.
pub record Reads (limit : ℕ) (old new : Ahead) (left left' : Option (List ℕ)) (lost lost' : ℕ) (given : List ℕ) (result : Next) : Type 0 where
  pub bytes : List ℕ
  pub line : List ℕ
  pub count : new.taken ≡ old.taken + length bytes
  pub within : new.taken ≤ limit
  pub consumed : Consumes left left' bytes
  pub unended : HasNoEnd line
  pub gives : given ≡ take given_bytes line
  pub splits : Splits (old.rest ++ bytes) line new.rest result
  pub ends : EndsBy limit new.taken left' lost lost' result

-- Pieces that were written, or only in part.
use Rattle.std.specs.Prelude.{◌≡◌, ℕ, ◌≤◌, List, length, take, Option, Result, OnOk, OnErr}
use Rattle.rp_ports.specs.Fault.{Rose}
use Rattle.rp_ports.specs.Sink.{Appends}

-- some of the first bytes of the piece were written, and no other byte
abbrev pub AppendsPart : Option (List ℕ) → Option (List ℕ) → List ℕ → Type 0
AppendsPart old new piece = (k : ℕ) × (k ≤ length piece) × Appends old new (take k piece)

-- At Ok the text was written, and no put failed. At Err a part of it was, and the sink's count of faults rose. The count never falls.
pub record Sends {T E : Type 0} (old new : Option (List ℕ)) (before now : ℕ) (text : List ℕ) (result : Result T E) : Type 0 where
  pub ok : OnOk result (Appends old new text)
  pub err : OnErr result (AppendsPart old new text)
  pub cause : OnErr result (Rose before now)
  pub steady : OnOk result (now ≡ before)
  pub count : before ≤ now

-- The events of a cycle, part by part.
use Rattle.std.specs.Prelude.{ℕ, if◌then◌else◌, List, [], ◌∷◌, Option, Some, None}
use Rattle.rp_base.specs.Word.{has_bit}
use Rattle.rp_machine.specs.Events.{Event}
use Rattle.rp_machine.specs.Events.Event.{Byte, Pin}

-- the byte of a UART, if it sent one
abbrev pub byte_of : ℕ → ℕ → Option ℕ → List Event
byte_of cycle uart None = []
byte_of cycle uart (Some byte) = Byte cycle uart byte ∷ []

-- a pin's new level, if it changed
abbrev pub change_of : ℕ → ℕ → ℕ → ℕ → List Event
change_of cycle changed after pin = if has_bit changed pin then Pin cycle pin (has_bit after pin) ∷ [] else []

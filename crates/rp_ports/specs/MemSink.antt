-- When a sink in memory fails.
use Rattle.std.specs.Prelude.{◌≡◌, ℕ, ◌<◌, List, length, Contains, ◌⊎◌}
use Rattle.rp_ports.specs.Fault.{one_more}
use Rattle.rp_ports.specs.declared.sink.Put.{Put}
use Rattle.rp_ports.specs.declared.sink.Put.TheVariants.{Took, Failed}

-- A call takes the whole piece, or fails where it is listed or where the bytes found no room
-- (failing: the listed calls, call: this one's number, room: the bytes that fit without more memory).
abbrev pub FailsWhereListed : List ℕ → ℕ → ℕ → List ℕ → Put → Type 0
FailsWhereListed failing call room piece (Took n) = (n ≡ length piece) × (Contains failing call → ⊥)
FailsWhereListed failing call room piece Failed = Contains failing call ⊎ (room < length piece)

-- the count of faults: Failed is one more, and Took leaves it
abbrev pub faults_after : ℕ → Put → ℕ
faults_after faults (Took n) = faults
faults_after faults Failed = one_more faults

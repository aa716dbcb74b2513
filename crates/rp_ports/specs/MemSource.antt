-- When a source in memory fails.
use Rattle.std.specs.Prelude.{◌≡◌, ℕ, min, List, Contains}
use Rattle.rp_ports.specs.Fault.{one_more}
use Rattle.rp_ports.specs.declared.source.Taken.{Taken}
use Rattle.rp_ports.specs.declared.source.Taken.TheVariants.{Took, End, Failed}

-- A call fails where it is listed, and nowhere else; the others give as many bytes as are left and as the buffer has room for
-- (failing: the listed calls, call: this one's number, left: how many bytes are left, room: the buffer's length).
abbrev pub FailsWhereListed : List ℕ → ℕ → ℕ → ℕ → Taken → Type 0
FailsWhereListed failing call left room (Took n) = (n ≡ min left room) × (Contains failing call → ⊥)
FailsWhereListed failing call left room End = Contains failing call → ⊥
FailsWhereListed failing call left room Failed = Contains failing call

-- the count of faults: Failed is one more, and no other answer changes it
abbrev pub faults_after : ℕ → Taken → ℕ
faults_after faults (Took n) = faults
faults_after faults End = faults
faults_after faults Failed = one_more faults

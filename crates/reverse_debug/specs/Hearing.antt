-- How the taking of an input ends, and what is said then: the project's own.
use Rattle.std.specs.Prelude.{◌≡◌, ◌⊎◌, ℕ, ◌<◌, ◌≤◌, Bool, true, false, List, [], codes, Option, Result, Ok, Err}
use Rattle.rp_ports.specs.Fault.{Rose}
use Rattle.rp_ports.specs.Source.{Consumes, IsAtEnd}
use Rattle.trace_text.specs.declared.writer.SinkFault.{SinkFault}
use Rattle.reverse_debug.specs.declared.way.Way.{Way}
use Rattle.reverse_debug.specs.declared.way.Way.TheVariants.{Closed, Ended, Broken, Full}
use Rattle.reverse_debug.specs.Lines.{complete_lines, all_lines, until}

-- it may end so after this many bytes (closed: a last line is complete among them)
abbrev pub MayEnd : ℕ → Bool → ℕ → Way → Type 0
MayEnd limit closed count Closed = closed ≡ true
MayEnd limit closed count Ended = (closed ≡ false) × (count < limit)
MayEnd limit closed count Broken = (closed ≡ false) × (count < limit)
MayEnd limit closed count Full = (closed ≡ false) × (count ≡ limit)

-- the lines that are answered: those before the last one; at the end of the input an open line is one of them, and elsewhere not
abbrev pub lines_heard : (List ℕ → Bool) → Way → List ℕ → List (List ℕ)
lines_heard last Closed bytes = until last (complete_lines bytes)
lines_heard last Ended bytes = until last (all_lines bytes)
lines_heard last Broken bytes = until last (complete_lines bytes)
lines_heard last Full bytes = until last (complete_lines bytes)

-- the line that is put behind the answers
abbrev pub way_line : Way → List ℕ
way_line Closed = []
way_line Ended = []
way_line Broken = codes "error source\n"
way_line Full = codes "error input\n"

-- the status that goes with it
abbrev pub way_status : Way → ℕ
way_status Closed = 0
way_status Ended = 0
way_status Broken = 8
way_status Full = 10

-- What the source says of the way: where a take failed its count of faults rose, and on every other way no take failed; at the end of
-- the input it holds no byte, but where the sink failed before (status 7).
abbrev pub BearsOut : Option (List ℕ) → ℕ → ℕ → ℕ → Way → Type 0
BearsOut left before now status Closed = now ≡ before
BearsOut left before now status Ended = (now ≡ before) × ((status ≡ 7) ⊎ IsAtEnd left)
BearsOut left before now status Broken = Rose before now
BearsOut left before now status Full = now ≡ before

-- the bytes taken are those that the source held before and no longer holds, and it bears out the way
pub record IsTaken (old new : Option (List ℕ)) (before now status : ℕ) (bytes : List ℕ) (way : Way) : Type 0 where
  pub taken : Consumes old new bytes
  pub forward : before ≤ now
  pub borne : BearsOut new before now status way

-- the status of a hearing, before the line of its way is put
abbrev pub status_by : Result Way SinkFault → ℕ
status_by (Ok way) = 0
status_by (Err fault) = 7

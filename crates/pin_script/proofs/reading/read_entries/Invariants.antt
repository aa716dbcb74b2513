use Rattle.std.proofs.Common.{◌≡◌, ◌≤◌, ◌+◌, ℕ, Bool, List, length}
use Rattle.std.specs.Str.Lines.{lines}
use Rattle.pin_script.specs.Lines.{Earlier}
use Rattle.pin_script.specs.Script.{after_lines, entries_of}
use Rattle.pin_script.proofs.reading.read_entries.Given as goal

-- the lines up to here gave this
pub record IsReading (bytes rest : List ℕ) (sends : Bool) (number : ℕ) (earlier : Earlier) : Type 0 where
  pub left : entries_of bytes ≡ after_lines sends (number + 1) earlier (lines rest)
  pub short : number + length rest ≤ length bytes

abbrev pub invariant-loop-heading : goal.invariant-loop-heading
invariant-loop-heading l = IsReading l.bytes l.rest l.heading.sends l.number l.earlier

abbrev pub decreases-loop-heading : goal.decreases-loop-heading
decreases-loop-heading l = length l.rest

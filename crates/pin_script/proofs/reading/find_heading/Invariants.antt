use Rattle.std.proofs.Common.{◌≡◌, ◌≤◌, ◌+◌, ℕ, List, length}
use Rattle.std.specs.Str.Lines.{lines}
use Rattle.pin_script.specs.Script.{entries_of, of_lines}
use Rattle.pin_script.proofs.reading.find_heading.Given as goal

-- the lines up to here are skipped
pub record IsSkipping (bytes rest : List ℕ) (number : ℕ) : Type 0 where
  pub left : entries_of bytes ≡ of_lines (number + 1) (lines rest)
  pub short : number + length rest ≤ length bytes

abbrev pub invariant-loop-line : goal.invariant-loop-line
invariant-loop-line l = IsSkipping l.bytes l.rest l.number

abbrev pub decreases-loop-line : goal.decreases-loop-line
decreases-loop-line l = length l.rest

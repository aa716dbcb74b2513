use Rattle.std.proofs.Common.{◌≡◌, ◌≤◌, ◌+◌, ℕ, List, length}
use Rattle.std.specs.Str.Lines.{lines}
use Rattle.source_text.specs.Lines.{first_that}
use Rattle.thumb_asm.specs.Lines.{has_other_char}
use Rattle.thumb_asm.proofs.lines.first_other_char.Given as goal

-- the lines up to here have no other character
pub record IsAllowed (text rest : List ℕ) (number : ℕ) : Type 0 where
  pub left : first_that has_other_char 1 (lines text) ≡ first_that has_other_char (number + 1) (lines rest)
  pub short : number + length rest ≤ length text

abbrev pub invariant-loop-rest : goal.invariant-loop-rest
invariant-loop-rest l = IsAllowed l.text l.rest l.number

abbrev pub decreases-loop-rest : goal.decreases-loop-rest
decreases-loop-rest l = length l.rest

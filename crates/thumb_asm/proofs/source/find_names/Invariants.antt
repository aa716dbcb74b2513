use Rattle.std.proofs.Common.{◌≡◌, ◌≤◌, ◌+◌, ◌*◌, ℕ, List, length}
use Rattle.std.specs.Str.Lines.{lines}
use Rattle.source_text.specs.Lines.{first_that}
use Rattle.thumb_asm.specs.Lines.{is_misfit}
use Rattle.thumb_asm.specs.Source.{Names, names_from, names_of}
use Rattle.thumb_asm.proofs.source.find_names.Given as goal

-- the lines up to here have forms and define these names
pub record IsNaming (text rest : List ℕ) (number address : ℕ) (names : Names) : Type 0 where
  pub named : names_of text ≡ names_from (number + 1) address names (lines rest)
  pub fits : first_that is_misfit 1 (lines text) ≡ first_that is_misfit (number + 1) (lines rest)
  pub short : number + length rest ≤ length text
  pub near : address + 65536 * length rest ≤ 0x2000_0000 + 65536 * length text

abbrev pub invariant-loop-rest : goal.invariant-loop-rest
invariant-loop-rest l = IsNaming l.text l.rest l.number l.address l.names

abbrev pub decreases-loop-rest : goal.decreases-loop-rest
decreases-loop-rest l = length l.rest

use Rattle.std.proofs.Common.{◌≡◌, ◌≤◌, List, ℕ, [], drop}
use Rattle.pio_asm.proofs.Shared.{Line, Names, names_of}
use Rattle.pio_asm.proofs.program.read_names.Given as goal

-- the names of the whole go on from here
pub record IsReading (globals names : Names) (count index : ℕ) (lines : List Line) : Type 0 where
  pub few : count ≤ index
  pub whole : names_of globals [] 0 lines ≡ names_of globals names count (drop index lines)

abbrev pub invariant-loop-line : goal.invariant-loop-line
invariant-loop-line l = IsReading l.globals l.names l.count l.line-index l.lines

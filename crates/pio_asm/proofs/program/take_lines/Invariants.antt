use Rattle.std.proofs.Common.{◌≡◌, List, ℕ, drop}
use Rattle.pio_asm.proofs.Shared.{Line, Building, Names, IsOptionalConfig, lines_from, lines_of}
use Rattle.pio_asm.proofs.program.take_lines.Given as goal

-- the lines of the whole go on from here
pub record IsBuilding (whole globals : Names) (total index : ℕ) (lines : List Line) (building : Building) : Type 0 where
  pub side : IsOptionalConfig building.side
  pub rest : lines_of globals lines (whole, total) ≡ lines_from whole globals total (drop index lines) building

abbrev pub invariant-loop-line : goal.invariant-loop-line
invariant-loop-line l = IsBuilding l.context.whole.now l.context.globals.now l.context.total l.line-index l.lines l.building

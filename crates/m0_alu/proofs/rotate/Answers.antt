use Rattle.std.proofs.Common.{arith, ap, ◌∙◌, sym}
use Rattle.m0_alu.proofs.ShiftLemmas.{rotated_some, rotated_none}
use Rattle.m0_alu.specs.Shift.{rotated}
use Rattle.m0_alu.proofs.rotate.Goals as goal

pub returns-then-count-eq0 : goal.returns-then-count-eq0
returns-then-count-eq0 c =
    rotated_none c.args.x (omega arith) ∙ ap (rotated c.args.x) (sym c.if-count-eq0.true)

pub returns-else-count-eq0 : goal.returns-else-count-eq0
returns-else-count-eq0 c = rotated_some c.args.x c.args.count (omega arith) c.requires

use Rattle.std.proofs.Common.{sym, ap, ◌∙◌}
use Rattle.rp_base.proofs.Exact.{told}
use Rattle.m0_core.specs.declared.doing.Work.TheVariants as works
use Rattle.m0_core.proofs.Comparisons.{exact_op}
use Rattle.m0_core.proofs.finish.is_instruction.Goals as goal

pub returns-in-Instruction-other : goal.returns-in-Instruction-other
returns-in-Instruction-other c h =
    c.in-Instruction.is ∙ (ap works.Instruction ((told _ exact_op c.eq.ensures).0 h) ∙ sym c.in-Instruction-other.is)

use Rattle.std.proofs.Common.{sym, subst}
use Rattle.lane_look.specs.Asking.{Runs}
use Rattle.m0_core.proofs.Kept.{kept_in}
use Rattle.m0_core.proofs.processor.Core.begin_work.Goals as goal

pub returns-in-Instruction-3 : goal.returns-in-Instruction-3
returns-in-Instruction-3 g c =
    let asked = kept_in c.self.inside.is_kept c.self.inside.kept c.args.work.now c.in-Instruction-3.field-0 c.self.view_is c.requires c.in-Instruction-3.is c.if-self.true c.self.invariant in
    subst (λ tree. Runs g.K.Look.answers c.args.look.now tree c.begin_placed.new.act c.begin_placed.new.look) (sym asked) c.begin_placed.ensures

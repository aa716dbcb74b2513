use Rattle.window_merge.proofs.Shared.{CopiesAgree, GoneOver, Start, setting, subst, sym}
use Rattle.window_merge.proofs.Passing.{gone_none}
use Rattle.window_merge.proofs.WaitingCycles.{has_waited}
use Rattle.window_merge.proofs.inward.go_waiting.Goals as goal

pub returns-then-cycles-eq0-clause-gone : goal.returns-then-cycles-eq0-clause-gone
returns-then-cycles-eq0-clause-gone g c = gone_none _ _ _ _ _

pub returns-clause-gone : goal.returns-clause-gone
returns-clause-gone g c =
    let w = setting g.X.Device.meaning c.args.world.now in
    let same = c.is_same.ensures in
    let is = c.if-not-is_same.false in
    subst (λ (start : Start). GoneOver w start c.args.machine.now c.args.notes.now c.args.marks.now c.quiet-cycles.result c.pass.new.machine
    c.args.notes.now c.mark_each.new.marks) (sym (same.start is))
    (has_waited w c.args.notes.now c.args.machine.now c.pass.new.machine c.quiet-cycles.result c.pads.result c.args.marks.now
    c.mark_each.new.marks (same.sees is) (subst CopiesAgree c.machine.view_is c.machine.invariant) c.quiet-cycles.ensures.parts
    c.pass.ensures c.pads.ensures c.mark_each.ensures)

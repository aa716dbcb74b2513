use Rattle.std.proofs.Common.{refl}
use Rattle.rp_machine.proofs.Inward.{has_gone_none, has_gone_on}
use Rattle.rp_machine.proofs.machine.Machine.go_onward.Goals as goal

pub loop-done-init : goal.loop-done-init
loop-done-init g c = has_gone_none _ _ _ _ _ c.lines-lines.ensures

pub loop-done-preserved : goal.loop-done-preserved
loop-done-preserved g c =
    has_gone_on _ _ _ _ _ _ _ _ _ _ _ _ _ c.loop-done.invariant c.loop-done-test.true
    (c.cycle_onward.ensures.inward c.if-cycle_onward.true) (c.cycle_onward.ensures.done c.if-cycle_onward.true) refl c.tick.ensures
    c.cycle_onward.ensures.marks

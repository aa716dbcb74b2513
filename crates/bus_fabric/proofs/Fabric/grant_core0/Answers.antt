use Rattle.std.proofs.Common.{not, sym, ap, slice_set, ◌∙◌}
use Rattle.rp_base.specs.declared.Master.TheVariants.{Core0}
use Rattle.bus_fabric.specs.State.{State, has_hold}
use Rattle.bus_fabric.proofs.Alone.{after_short}
use Rattle.bus_fabric.proofs.Fabric.grant_core0.Goals as goal

pub returns-in-Some-clause-after : goal.returns-in-Some-clause-after
returns-in-Some-clause-after c =
    let free = sym (ap has_hold c.self.view_is) ∙ (c.is_none.ensures ∙ ap not c.if-is_none.true) in
    ap (λ (s : State). record s { last = slice_set s.last c.in-Some.port Core0 }) c.self.view_is
    ∙ after_short c.args.asked c.in-Some.port _ c.args.self.now c.in-Some.is free c.if-port-ne-APB.true

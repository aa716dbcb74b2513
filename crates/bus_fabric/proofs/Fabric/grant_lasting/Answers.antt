use Rattle.std.proofs.Common.{ap, sym, slice_set, ◌∙◌}
use Rattle.rp_base.specs.declared.Master.TheVariants.{Core0}
use Rattle.bus_fabric.specs.State.{State}
use Rattle.bus_fabric.proofs.Alone.{after_none, after_won, after_held}
use Rattle.bus_fabric.proofs.Fabric.grant_lasting.Goals as goal

pub returns-in_default-clause-after : goal.returns-in_default-clause-after
returns-in_default-clause-after c =
    ap (λ (s : State). record s { hold = c.hold_of_core0-hold.result }) c.self.view_is
    ∙ after_none c.args.asked c.hold_of_core0-hold.result c.args.self.now c.in_default.is c.hold_of_core0-hold.ensures

pub returns-then-free-clause-after : goal.returns-then-free-clause-after
returns-then-free-clause-after c =
    ap (λ (s : State). record s { hold = c.hold_of_core0-hold.result; last = slice_set s.last c.in-Some.port Core0 }) c.self.view_is
    ∙ after_won c.args.asked c.in-Some.port _ c.hold_of_core0-hold.result c.args.self.now c.in-Some.is c.hold_of_core0-hold.ensures
    (sym c.is_free-free.ensures ∙ c.if-free.true)

pub returns-else-free-clause-after : goal.returns-else-free-clause-after
returns-else-free-clause-after c =
    ap (λ (s : State). record s { hold = c.hold_of_core0-hold.result }) c.self.view_is
    ∙ after_held c.args.asked c.in-Some.port _ c.hold_of_core0-hold.result c.args.self.now c.in-Some.is c.hold_of_core0-hold.ensures
    (sym c.is_free-free.ensures ∙ c.if-free.false)

use Rattle.std.proofs.Common.{◌∙◌}
use Rattle.rp_machine.proofs.Inward.{rests_by, reaches_by, nothing_inward, inward_by}
use Rattle.rp_machine.proofs.machine.Machine.begun_onward.Goals as goal

pub returns-then-is_bus_free-clause-inward : goal.returns-then-is_bus_free-clause-inward
returns-then-is_bus_free-clause-inward c =
    let free = c.is_bus_free.ensures.0 c.if-is_bus_free.true in λ done. nothing_inward _ _ c.requires.begun free.0

pub returns-then-is_bus_free-clause-done : goal.returns-then-is_bus_free-clause-done
returns-then-is_bus_free-clause-done c =
    let free = c.is_bus_free.ensures.0 c.if-is_bus_free.true in
    λ done. c.wantless_onward.ensures.state ∙ rests_by _ _ c.requires.begun free.0 free.1

pub returns-clause-inward : goal.returns-clause-inward
returns-clause-inward c = λ done. inward_by _ _ c.requires.begun (c.reach_onward.ensures.inward done)

pub returns-clause-done : goal.returns-clause-done
returns-clause-done c = λ done. reaches_by _ _ _ c.requires.begun (c.reach_onward.ensures.done done)

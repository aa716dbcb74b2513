use Rattle.window_merge.proofs.Shared.{ap, arith, goes_by, is_launching, setting, subst, sym, ◌∙◌, ◌≡◌}
use Rattle.rp_machine.specs.State.{State}
use Rattle.window_merge.proofs.Passing.{passes_none, closed_later}
use Rattle.window_merge.proofs.InwardCycles.{goes_first_on}
use Rattle.window_merge.proofs.here.window.Goals as goal

pub returns-then-not-goes_by-clause-length : goal.returns-then-not-goes_by-clause-length
returns-then-not-goes_by-clause-length g c =
    let w = setting g.X.Device.meaning c.args.world.now in
    let s = c.args.machine.now in
    let known = c.fact_copies_are_known.ensures in
    let some = c.if-most-eq0.false in
    let most = c.longest-most.ensures.value in
    let family : State → Type 0 = λ s. c.is_launching.result ≡ is_launching s.core1 in
    closed_later w s 0 s _ _ _ (passes_none w s (record { free = c.requires.free; knows = known.knows; long = known.sram })
    (sym (subst family c.machine.view_is c.is_launching.ensures) ∙ c.if-is_launching.false)) (omega (arith, some, most))
    (goes_first_on w s ∙ sym (c.goes_by.ensures ∙ ap goes_by c.requires.begun) ∙ c.if-not-goes_by.true)

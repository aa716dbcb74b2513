use Rattle.rp_machine.proofs.Shared.{State, answer_of, ap, core0_want, ended, inward_cycle, lines_of, refl, subst, sym, the_view, ◌+◌, ◌∙◌, ◌≡◌}
use Rattle.lane_look.specs.declared.lane.Ask.TheVariants.{Half}
use Rattle.lane_look.specs.declared.lane.Want.TheVariants.{Nothing}
use Rattle.m0_core.specs.State.{State as Core}
use Rattle.rp_machine.proofs.Inward.{short_by}
use Rattle.rp_machine.proofs.machine.Machine.short_onward.Goals as goal

pub returns-clause-nothing : goal.returns-clause-nothing
returns-clause-nothing c =
    let s = the_view c.self.inside in
    let short = short_by s _ _ _ _ c.ranges.lines.fits (c.requires.lines ∙ ap (lines_of 0) (sym c.self.view_is)) (sym c.begins.ensures ∙ c.in-Some.is) (c.answer-answer.ensures ∙ ap (λ (t : State). answer_of 0 t (Half c.in-Some.address)) (sym c.self.view_is))
    (c.if-not-pass_short.ensures.begun refl) (c.if-not-pass_short.ensures.silent refl) (sym c.holds.ensures.hold ∙ c.if-holds.false) in
    λ done. subst (λ s. core0_want s ≡ Nothing) c.self.view_is short.0

pub returns-clause-state : goal.returns-clause-state
returns-clause-state c =
    let s = the_view c.self.inside in
    let short = short_by s _ _ _ _ c.ranges.lines.fits (c.requires.lines ∙ ap (lines_of 0) (sym c.self.view_is)) (sym c.begins.ensures ∙ c.in-Some.is) (c.answer-answer.ensures ∙ ap (λ (t : State). answer_of 0 t (Half c.in-Some.address)) (sym c.self.view_is))
    (c.if-not-pass_short.ensures.begun refl) (c.if-not-pass_short.ensures.silent refl) (sym c.holds.ensures.hold ∙ c.if-holds.false) in
    ap (λ (t : State). record t { cycle = s.cycle + 1 }) (c.self-2.view_is ∙ c.end.ensures)
    ∙ ap (λ (k : Core). record (ended (record s { core0 = k })) { cycle = s.cycle + 1 }) c.if-not-pass_short.ensures.state
    ∙ short.1 ∙ ap inward_cycle c.self.view_is

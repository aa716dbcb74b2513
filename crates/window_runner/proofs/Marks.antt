-- The marks of some cycles tell their events.
use Rattle.window_runner.proofs.Shared.{List, Mark, None, Option, Setting, Some, State, Why, [], ap, arith, events, events_by, events_in, events_more, length, length-append, mark, marks_in, next, next_cycle, refl, states, states_here, states_on, stop, suc, sym, zero, ℕ, ◌++◌, ◌+◌, ◌∙◌, ◌∷◌, ◌≡◌}
use Rattle.window_runner.proofs.Along.{no_cycles}
use Rattle.window_runner.proofs.Pads.{next_levels}

pub marks_count : (w : Setting) (s : State) (n : ℕ) → length (marks_in w s n) ≡ n
unfolding marks_in
marks_count w s zero = refl
marks_count w s (suc n) = length-append (marks_in w s n) (mark w (states w s n) ∷ []) ∙ rw (marks_count w s n) (omega arith)

marks_more : (w : Setting) (s : State) (n : ℕ) → marks_in w s (suc n) ≡ marks_in w s n ++ mark w (states w s n) ∷ []
unfolding marks_in
marks_more w s n = refl

no_marks : (w : Setting) (s : State) → marks_in w s zero ≡ []
unfolding marks_in
no_marks w s = refl

-- the first of them is that of the first cycle
marks_first : (w : Setting) (s : State) (n : ℕ) → stop w s ≡ None → marks_in w s (suc n) ≡ mark w s ∷ marks_in w (next w s) n
marks_first w s zero h =
    marks_more w s zero ∙ ap (λ ms. ms ++ mark w (states w s zero) ∷ []) (no_marks w s) ∙ ap (λ t. mark w t ∷ []) (no_cycles w s)
    ∙ ap (λ ms. mark w s ∷ ms) (sym (no_marks w (next w s)))
marks_first w s (suc n) h =
    marks_more w s (suc n) ∙ ap (λ ms. ms ++ mark w (states w s (suc n)) ∷ []) (marks_first w s n h)
    ∙ ap (λ t. mark w s ∷ (marks_in w (next w s) n ++ mark w t ∷ [])) (states_on w s n h)
    ∙ ap (λ ms. mark w s ∷ ms) (sym (marks_more w (next w s) n))

-- the events of the first cycle, and of those that follow
begins_with : (w : Setting) (s : State) (ms : List Mark) → events_by s.cycle s.outer.pads.current (mark w s ∷ ms) ≡ events w s ++ events_by (next w s).cycle (next w s).outer.pads.current ms
unfolding events
begins_with w s ms =
    ap (λ n. events w s ++ events_by n (mark w s).pads ms) (sym (next_cycle w s))
    ∙ ap (λ levels. events w s ++ events_by (next w s).cycle levels ms) (sym (next_levels w s))

-- cycles that were all done have no stop before the first of them
none_before : (w : Setting) (s : State) (n : ℕ) (cause : Option Why) → stop w s ≡ cause → (states w s (suc n)).cycle ≡ s.cycle + suc n → stop w s ≡ None
none_before w s n None e at = e
none_before w s n (Some why) e at =
    let here = ap (λ (t : State). t.cycle) (states_here w s why (suc n) e) in
    absurd (omega (arith, here, at))

-- the marks of cycles that were all done tell the events of these cycles
pub marks_tell : (w : Setting) (s : State) (n : ℕ) → (states w s n).cycle ≡ s.cycle + n → events_by s.cycle s.outer.pads.current (marks_in w s n) ≡ events_in w s n
unfolding marks_in events_in
marks_tell w s zero at = refl
marks_tell w s (suc n) at =
    let none = none_before w s n (stop w s) refl at in
    let cycle = next_cycle w s in
    let there = ap (λ (t : State). t.cycle) (states_on w s n none) in
    let rest = marks_tell w (next w s) n (omega (arith, cycle, there, at)) in
    ap (events_by s.cycle s.outer.pads.current) (marks_first w s n none) ∙ begins_with w s (marks_in w (next w s) n)
    ∙ ap (λ es. events w s ++ es) rest ∙ sym (events_more w s n none)

-- Cycles in which nobody has anything to do, gone over at once on the way of a run.
use Rattle.window_runner.proofs.Shared.{IsQuiet, List, None, OnItsWay, Setting, State, [], all_events, all_shown, along_states, ap, arith, events_in, events_more, join, last_state, next, refl, run_shown, states, states_on, stop, subst, suc, sym, zero, ℕ, ◌++◌, ◌+◌, ◌-◌, ◌<◌, ◌∙◌, ◌≡◌, ◌≤◌}
use Rattle.trace_text.specs.declared.event.Event.{Event as Shown}
use Rattle.rp_machine.specs.Events.{Event, events}
use Rattle.window_runner.proofs.Along.{no_cycles}
use Rattle.window_runner.proofs.Reaching.{then_on}
use Rattle.window_runner.proofs.Telling.{taken_same}

pub no_events_in : (w : Setting) (s : State) (n : ℕ) → ((k : ℕ) → k < n → stop w (states w s k) ≡ None) → ((k : ℕ) → k < n → events w (states w s k) ≡ [])
    → events_in w s n ≡ []
unfolding events_in
no_events_in w s zero goes silent = refl
no_events_in w s (suc n) goes silent =
    let runs : stop w s ≡ None = ap (stop w) (sym (no_cycles w s)) ∙ goes 0 (omega arith) in
    events_more w s n runs
    ∙ ap (λ (es : List Event). es ++ events_in w (next w s) n) (ap (events w) (sym (no_cycles w s)) ∙ silent 0 (omega arith))
    ∙ no_events_in w (next w s) n
    (λ k lt. ap (stop w) (sym (states_on w s k runs)) ∙ goes (suc k) (omega arith))
    (λ k lt. ap (events w) (sym (states_on w s k runs)) ∙ silent (suc k) (omega arith))

pub number_over : (w : Setting) (s t : State) (n : ℕ) → t ≡ states w s n → IsQuiet w s n → t.cycle ≡ s.cycle + n
number_over w s t n state h = ap (λ (u : State). u.cycle) state ∙ h.cycle n (omega arith)

-- the events that are left are the same
shown_over : (w : Setting) (s t : State) (n : ℕ) → s.cycle ≤ w.limit → t ≡ states w s n → IsQuiet w s n → run_shown w s ≡ run_shown w t
unfolding all_events
shown_over w s t n le state h =
    let number = number_over w s t n state h in
    let same = ap (λ (u : State). u.cycle) state in
    let within = (along_states w s n le).within in
    let sum : w.limit - s.cycle ≡ n + (w.limit - t.cycle) = omega (arith, number, same, within) in
    ap all_shown (ap (events_in w s) sum ∙ (join w s n (w.limit - t.cycle)).events
    ∙ ap (λ (es : List Event). es ++ events_in w (states w s n) (w.limit - t.cycle)) (no_events_in w s n h.goes h.silent)
    ∙ ap (λ (u : State). events_in w u (w.limit - t.cycle)) (sym state))

pub way_over : {T : Type 0} {took : T → List Shown → T → Type 0} {a b : T} {f g : ℕ} {w : Setting} {first s : State} {before now : ℕ} (t : State) (after n : ℕ) → OnItsWay took a b f g w first s before now
    → t ≡ states w s n → IsQuiet w s n → after ≡ now + n → OnItsWay took a b f g w first t before after
way_over {T} {took} {a} {b} {f} {g} {w} {first} {s} {before} {now} t after n r state h count =
    let along = along_states w s n r.within in
    let number = number_over w s t n state h in
    let forward = r.forward in
    let so_far = r.steps in
    record {
      within = subst (λ (u : State). u.cycle ≤ w.limit) (sym state) along.within;
      forward = omega (arith, forward, number);
      way = then_on w first s t r.way (record { count = n; state = state });
      last = ap (last_state w) state ∙ along.last ∙ r.last;
      steps = omega (arith, so_far, number, count);
      taken = taken_same took a b f g (run_shown w first) (run_shown w s) (run_shown w t) r.taken (shown_over w s t n r.within state h);
    }

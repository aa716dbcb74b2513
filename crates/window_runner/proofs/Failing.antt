-- Where a machine stands whose tape has failed.
use Rattle.window_runner.proofs.Shared.{Bool, FailsAmong, FailsWithin, GoesOn, List, None, Setting, State, TakenBefore, all_events, all_shown, ap, append-nil, append_cancel_right, arith, at_most, events_in, events_more, false, if◌then◌else◌, least_meets, one_more, refl, run_shown, states, step_events, stop, subst, sym, true, zero, ℕ, ◌++◌, ◌∙◌, ◌≡◌, ◌≤◌}
use Rattle.trace_text.specs.declared.event.Event.{Event as Shown}
use Rattle.rp_machine.specs.Events.{Event, events}
use Rattle.window_merge.specs.Window.{Position, longest, closes, is_tried, by_window, by_cycle, next_position, window_length}
use Rattle.window_runner.proofs.Along.{events_split}
use Rattle.window_runner.proofs.CycleEvents.{shown_both}
use Rattle.window_runner.proofs.Reaching.{Reached}

-- what was taken are the events of the cycles so far
pub taken_are : {T : Type 0} (took : T → List Shown → T → Type 0) (a b : T) (f g : ℕ) (w : Setting) (first s : State) (n : ℕ) → first.cycle ≤ w.limit → s ≡ states w first n
    → TakenBefore took a b f g (run_shown w first) (run_shown w s) → took a (all_shown (events_in w first n)) b
taken_are took a b f g w first s n le here t =
    let same : all_shown (events_in w first n) ++ run_shown w s ≡ t.part ++ run_shown w s =
    ap (λ (x : State). all_shown (events_in w first n) ++ run_shown w x) here
    ∙ sym (shown_both (events_in w first n) (all_events w (states w first n))) ∙ ap all_shown (events_split w first n le) ∙ t.whole in
    subst (λ es. took a es b) (sym (append_cancel_right (all_shown (events_in w first n)) t.part (run_shown w s) same)) t.taken

pub fails_within : {T : Type 0} (took : T → List Shown → T → Type 0) (missed : T → Shown → T → Type 0) (a b c : T) (f g : ℕ) (w : Setting) (most last : ℕ) (first s t : State)
    → first.cycle ≤ w.limit → GoesOn w first s → TakenBefore took a b f g (run_shown w first) (run_shown w s) → last ≤ most → t ≡ states w s last
    → FailsAmong took missed b c (all_shown (events_in w s last)) → FailsWithin took missed a c w most first t
fails_within took missed a b c f g w most last first s t le way taken few stands fails = record {
  before = way.count;
  last = last;
  few = few;
  between = b;
  taken = taken_are took a b f g w first s way.count le way.state taken;
  failed = subst (λ (x : State). FailsAmong took missed b c (all_shown (events_in w x last))) way.state fails;
  stands = stands ∙ ap (λ (x : State). states w x last) way.state;
}

events_of_one : (w : Setting) (s : State) → stop w s ≡ None → events_in w s 1 ≡ events w s
unfolding events_in
events_of_one w s runs = events_more w s zero runs ∙ append-nil (events w s)

-- ---- at one of a step

pub few_in_window : (w : Setting) (s : State) → window_length w s ≤ 256
unfolding window_length
few_in_window w s = let low = (least_meets (closes w s) (longest w s)).within in let most = at_most w s in omega (arith, low, most)

-- a step has so many cycles
abbrev HasCycles : Setting → Position → Position → List Event → Type 0
HasCycles w p q told = (n : ℕ) × (n ≤ 256) × (q.state ≡ states w p.state n) × (told ≡ events_in w p.state n)

cycles_by : (w : Setting) (p : Position) (tried : Bool) → stop w p.state ≡ None
    → HasCycles w p (if tried then by_window w (window_length w p.state) p else by_cycle w p) (if tried then events_in w p.state (window_length w p.state) else events w p.state)
cycles_by w p true runs = (window_length w p.state, few_in_window w p.state, refl, refl)
cycles_by w p false runs = (1, omega arith, sym (one_more w p.state runs), sym (events_of_one w p.state runs))

cycles_of : (w : Setting) (p : Position) → stop w p.state ≡ None → HasCycles w p (next_position w p) (step_events w p)
unfolding next_position
cycles_of w p runs = cycles_by w p (is_tried p.after_empty p.state) runs

pub fails_in_step : {T : Type 0} (took : T → List Shown → T → Type 0) (missed : T → Shown → T → Type 0) (a b c : T) (f g : ℕ) (w : Setting) (first : State) (p q : Position)
    → first.cycle ≤ w.limit → Reached w first p → TakenBefore took a b f g (run_shown w first) (run_shown w p.state) → stop w p.state ≡ None → q ≡ next_position w p
    → FailsAmong took missed b c (all_shown (step_events w p)) → FailsWithin took missed a c w 256 first q.state
fails_in_step took missed a b c f g w first p q le r taken runs same fails =
    let h = cycles_of w p runs in
    fails_within took missed a b c f g w 256 h.0 first p.state q.state le r.way taken h.1 (ap (λ (x : Position). x.state) same ∙ h.2)
    (subst (λ es. FailsAmong took missed b c (all_shown es)) h.3 fails)

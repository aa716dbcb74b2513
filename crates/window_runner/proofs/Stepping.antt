-- One step of a run: where it leaves the machine and the counts, and the events that are told of it.
use Rattle.window_runner.proofs.Shared.{Counts, List, Mark, None, Ok, Option, Result, Setting, SinkFault, Some, State, StepsTo, Tells, Why, [], all_shown, along_states, ap, append-nil, arith, below_limit, events, events_by, events_in, events_of, false, has_hold, if◌then◌else◌, length, mark, marks_in, next, next_cycle, not, not_empty, position_at, refl, states, step_events, stop, stop_in, subst, sym, true, ℕ, ◌+◌, ◌<◌, ◌==◌, ◌∙◌, ◌∷◌, ◌≡◌, ◌≤◌}
use Rattle.trace_text.specs.declared.event.Event.{Event as Shown}
use Rattle.window_merge.specs.Window.{Position, is_tried, by_window, by_cycle, next_position, window_length}
use Rattle.window_runner.proofs.CycleEvents.{shown_none}
use Rattle.window_runner.proofs.Marks.{marks_count, marks_tell}
use Rattle.window_runner.proofs.Standing.{window_on, cycle_on}
use Rattle.window_runner.proofs.Telling.{TakesNone, tells_none, tells_same}

-- ---- where it goes

goes_by_window : (w : Setting) (s t : State) (old new : Counts) (n : ℕ) → is_tried old.after_empty s ≡ true → n ≡ window_length w s → t ≡ states w s n
    → new.windows ≡ old.windows + 1 → new.cycles ≡ old.cycles + n → new.after_empty ≡ (n == 0)
    → position_at t new ≡ next_position w (position_at s old)
goes_by_window w s t old new n tried len state windows cycles after =
    let here : position_at t new ≡ by_window w n (position_at s old) = rw (state, windows, cycles, after) refl in
    here ∙ ap (λ k. by_window w k (position_at s old)) len ∙ sym (window_on w (position_at s old) tried)

goes_by_cycle : (w : Setting) (s t : State) (old new : Counts) → is_tried old.after_empty s ≡ false → t ≡ next w s
    → new.windows ≡ old.windows → new.cycles ≡ old.cycles → new.after_empty ≡ false
    → position_at t new ≡ next_position w (position_at s old)
goes_by_cycle w s t old new tried state windows cycles after =
    let here : position_at t new ≡ by_cycle w (position_at s old) = rw (state, windows, cycles, after) refl in
    here ∙ sym (cycle_on w (position_at s old) tried)

-- ---- the events that are told of it

pub events_of_window : (w : Setting) (p : Position) → is_tried p.after_empty p.state ≡ true → step_events w p ≡ events_in w p.state (window_length w p.state)
events_of_window w p e = rw e refl

events_of_cycle : (w : Setting) (p : Position) → is_tried p.after_empty p.state ≡ false → step_events w p ≡ events w p.state
events_of_cycle w p e = rw e refl

tells_window : (w : Setting) (s t : State) (old : Counts) (n cycle before : ℕ) (marks : List Mark)
    → is_tried old.after_empty s ≡ true → n ≡ window_length w s → t ≡ states w s n → t.cycle ≡ s.cycle + n
    → cycle ≡ s.cycle → before ≡ s.outer.pads.current → marks ≡ marks_in w s n
    → events_by cycle before marks ≡ step_events w (position_at s old)
tells_window w s t old n cycle before marks tried len state number at levels left =
    let count : (states w s n).cycle ≡ s.cycle + n = ap (λ (x : State). x.cycle) (sym state) ∙ number in
    let here : events_by cycle before marks ≡ events_by s.cycle s.outer.pads.current (marks_in w s n) = rw (at, levels, left) refl in
    here ∙ marks_tell w s n count ∙ ap (events_in w s) len ∙ sym (events_of_window w (position_at s old) tried)

only_one : (w : Setting) (s : State) → events_by s.cycle s.outer.pads.current (mark w s ∷ []) ≡ events w s
unfolding events
only_one w s = append-nil (events_of s.cycle s.outer.pads.current (mark w s))

pub tells_one : (w : Setting) (s : State) (cycle before : ℕ) (marks : List Mark) → cycle ≡ s.cycle → before ≡ s.outer.pads.current → marks ≡ mark w s ∷ []
    → events_by cycle before marks ≡ events w s
tells_one w s cycle before marks at levels left =
    let here : events_by cycle before marks ≡ events_by s.cycle s.outer.pads.current (mark w s ∷ []) = rw (at, levels, left) refl in
    here ∙ only_one w s

-- ---- its numbers

-- no count comes to the bound of the limit
pub one_window_more : (w : Setting) (s : State) (old : Counts) (bound : ℕ) → w.limit < bound → stop w s ≡ None → s.cycle ≤ w.limit
    → is_tried old.after_empty s ≡ true → old.windows ≤ s.cycle + (if old.after_empty then 1 else 0) → old.windows + 1 < bound
one_window_more w s old bound lt runs le tried few =
    let here = not_empty old.after_empty (not (has_hold s.fabric)) tried in
    let none : old.windows ≤ s.cycle + (if false then 1 else 0) = subst (λ b. old.windows ≤ s.cycle + (if b then 1 else 0)) here few in
    let below = below_limit w s runs le in
    omega arith

pub cycles_more : (w : Setting) (s t : State) (cycles n bound : ℕ) → w.limit < bound → s.cycle ≤ w.limit → t ≡ states w s n → t.cycle ≡ s.cycle + n
    → cycles ≤ s.cycle → cycles + n < bound
cycles_more w s t cycles n bound lt le state number few =
    let within = (along_states w s n le).within in
    let same = ap (λ (x : State). x.cycle) state in
    omega arith

pub marks_behind : (w : Setting) (s t : State) (cycle n bound : ℕ) (marks : List Mark) → w.limit < bound → s.cycle ≤ w.limit → t ≡ states w s n → t.cycle ≡ s.cycle + n
    → cycle ≡ s.cycle → marks ≡ marks_in w s n → cycle + length marks < bound
marks_behind w s t cycle n bound marks lt le state number at left =
    let count : length marks ≡ n = ap length left ∙ marks_count w s n in
    let fits = cycles_more w s t s.cycle n bound lt le state number (omega arith) in
    omega arith

pub mark_behind : (w : Setting) (s : State) (cycle bound : ℕ) (marks : List Mark) → w.limit < bound → stop w s ≡ None → s.cycle ≤ w.limit
    → cycle ≡ s.cycle → marks ≡ mark w s ∷ [] → cycle + length marks < bound
mark_behind w s cycle bound marks lt runs le at left =
    let count : length marks ≡ 1 = ap length left in
    let below = below_limit w s runs le in
    omega arith

-- ---- all of it

pub stopped : {T : Type 0} (took : T → List Shown → T → Type 0) (missed : T → Shown → T → Type 0) (a : T) (f : ℕ) (w : Setting) (s t : State) (counts : Counts) (why : Why) (steps steps' : ℕ) → TakesNone took
    → (stop w s ≡ Some why) × (t ≡ s) × (steps' ≡ steps)
    → StepsTo took missed a a f f w (position_at s counts) (position_at t counts) steps steps' (Ok (Some why))
stopped took missed a f w s t counts why steps steps' none h =
    let same = ap (λ (x : State). x.cycle) h.1 in
    let still = h.2 in
    record {
      cause = h.0;
      position = ap (λ (x : State). position_at x counts) h.1;
      told = tells_none took missed a f (all_shown []) (Some why) none shown_none;
      counted = omega arith;
      steps = omega arith;
    }

module _ {T : Type 0} {took : T → List Shown → T → Type 0} {missed : T → Shown → T → Type 0} {a b : T} {f g : ℕ} where
  pub by_window_told : (w : Setting) (s t : State) (old new : Counts) (n cycle before : ℕ) (marks : List Mark) (steps steps' : ℕ) (r : Result (Option Why) SinkFault) → stop_in r ≡ None
      → cycle ≡ s.cycle → before ≡ s.outer.pads.current → (stop w s ≡ None) × (is_tried old.after_empty s ≡ true) × (n ≡ window_length w s) × (t ≡ states w s n)
      × (marks ≡ marks_in w s n) × (steps' ≡ steps + n) × (t.cycle ≡ s.cycle + n)
      → new.windows ≡ old.windows + 1 → new.cycles ≡ old.cycles + n → new.after_empty ≡ (n == 0)
      → Tells took missed a b f g (all_shown (events_by cycle before marks)) r
      → StepsTo took missed a b f g w (position_at s old) (position_at t new) steps steps' r
  by_window_told w s t old new n cycle before marks steps steps' r none at levels h windows cycles after told =
      let number = h.6 in
      let more = h.5 in
      record {
        cause = h.0 ∙ sym none;
        position = rw none (goes_by_window w s t old new n h.1 h.2 h.3 windows cycles after);
        told = rw none (tells_same took missed a b f g (all_shown (events_by cycle before marks)) (all_shown (step_events w (position_at s old))) r
            (ap all_shown (tells_window w s t old n cycle before marks h.1 h.2 h.3 h.6 at levels h.4)) told);
        counted = omega (arith, number, cycles);
        steps = omega (arith, number, more);
      }

  pub by_cycle_told : (w : Setting) (s t : State) (old new : Counts) (cycle before : ℕ) (marks : List Mark) (steps steps' : ℕ) (r : Result (Option Why) SinkFault) → stop_in r ≡ None
      → cycle ≡ s.cycle → before ≡ s.outer.pads.current → (stop w s ≡ None) × (is_tried old.after_empty s ≡ false) × (t ≡ next w s) × (marks ≡ mark w s ∷ [])
      × (steps' ≡ steps + 1)
      → new.windows ≡ old.windows → new.cycles ≡ old.cycles → new.after_empty ≡ false
      → Tells took missed a b f g (all_shown (events_by cycle before marks)) r
      → StepsTo took missed a b f g w (position_at s old) (position_at t new) steps steps' r
  by_cycle_told w s t old new cycle before marks steps steps' r none at levels h windows cycles after told =
      let one = ap (λ (x : State). x.cycle) h.2 ∙ next_cycle w s in
      let more = h.4 in
      record {
        cause = h.0 ∙ sym none;
        position = rw none (goes_by_cycle w s t old new h.1 h.2 windows cycles after);
        told = rw none (tells_same took missed a b f g (all_shown (events_by cycle before marks)) (all_shown (step_events w (position_at s old))) r
            (ap all_shown (tells_one w s cycle before marks at levels h.3 ∙ sym (events_of_cycle w (position_at s old) h.1))) told);
        counted = omega (arith, one, cycles);
        steps = omega (arith, one, more);
      }

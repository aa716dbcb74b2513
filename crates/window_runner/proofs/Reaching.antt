-- A run on its way, from one of its positions to the next, up to its stop.
use Rattle.window_runner.proofs.Shared.{Bool, GoesOn, IsOnRun, List, None, Ok, Option, Setting, Some, State, TakenBefore, Tells, Why, [], all_events, all_shown, ap, arith, events_here, false, if◌then◌else◌, join, last_state, left_of, nearer, next, next_cycle, one_more, refl, run_shown, states, states_here, states_on, step_events, stop, subst, suc, sym, true, unless_stopped, zero, ℕ, ◌*◌, ◌++◌, ◌+◌, ◌-◌, ◌<◌, ◌∙◌, ◌≡◌, ◌≤◌}
use Rattle.trace_text.specs.declared.event.Event.{Event as Shown}
use Rattle.window_merge.specs.Window.{Position, first_position, is_tried, by_window, by_cycle, next_position, positions, last_position, window_length}
use Rattle.window_runner.proofs.Along.{IsCounted, counted_first, counted_next, no_cycles, step_then}
use Rattle.window_runner.proofs.CycleEvents.{shown_both}
use Rattle.window_runner.proofs.Standing.{at_step, step_here, stays}
use Rattle.window_runner.proofs.Telling.{TakesInTurn, taken_same, taken_last}

-- a run from a first state has come to this position
pub record Reached (w : Setting) (first : State) (p : Position) : Type 0 where
  pub number : ℕ
  pub here : p ≡ at_step w first number
  pub left : number + left_of w p ≤ 2 * (w.limit - first.cycle) + 1
  pub within : p.state.cycle ≤ w.limit
  pub forward : first.cycle ≤ p.state.cycle
  pub way : GoesOn w first p.state
  pub last : last_state w p.state ≡ last_state w first
  pub counted : IsCounted w first.cycle p

pub reached_first : (w : Setting) (s : State) → s.cycle ≤ w.limit → Reached w s (first_position s)
unfolding positions states
reached_first w s le =
    record {
      number = 0;
      here = refl;
      left = omega arith;
      within = le;
      forward = omega arith;
      way = record { count = 0; state = refl };
      last = refl;
      counted = counted_first w s;
    }

-- ---- from one position to the next

goes_by : (w : Setting) (p : Position) (tried : Bool) → stop w p.state ≡ None
    → GoesOn w p.state (if tried then by_window w (window_length w p.state) p else by_cycle w p).state
goes_by w p true runs = record { count = window_length w p.state; state = refl }
goes_by w p false runs = record { count = 1; state = sym (one_more w p.state runs) }

goes_on : (w : Setting) (p : Position) → stop w p.state ≡ None → GoesOn w p.state (next_position w p).state
unfolding next_position
goes_on w p runs = goes_by w p (is_tried p.after_empty p.state) runs

pub then_on : (w : Setting) (s t u : State) → GoesOn w s t → GoesOn w t u → GoesOn w s u
then_on w s t u a b = record {
  count = a.count + b.count;
  state = b.state ∙ ap (λ x. states w x b.count) a.state ∙ sym (join w s a.count b.count).state;
}

pub reached_next : (w : Setting) (first : State) (p : Position) → Reached w first p → stop w p.state ≡ None → Reached w first (next_position w p)
reached_next w first p r runs =
    let near = nearer w p runs r.within in
    let fewer = near.fewer in
    let left = r.left in
    let later = near.along.later in
    let forward = r.forward in
    record {
      number = r.number + 1;
      here = step_here w first r.number p r.here runs;
      left = omega (arith, fewer, left);
      within = near.along.within;
      forward = omega (arith, later, forward);
      way = then_on w first p.state (next_position w p).state r.way (goes_on w p runs);
      last = near.along.last ∙ r.last;
      counted = counted_next w first.cycle p runs r.within r.counted;
    }

-- where a step led
pub reached_on : (w : Setting) (first : State) (p q : Position) → Reached w first p → stop w p.state ≡ None → q ≡ next_position w p → Reached w first q
reached_on w first p q r runs same = subst (Reached w first) (sym same) (reached_next w first p r runs)

pub reached_nearer : (w : Setting) (first : State) (p q : Position) → Reached w first p → stop w p.state ≡ None → q ≡ next_position w p → left_of w q < left_of w p
reached_nearer w first p q r runs same =
    subst (λ (x : Position). left_of w x < left_of w p) (sym same) (nearer w p runs r.within).fewer

-- ---- a state of a run, by its own number

states_later : (w : Setting) (s : State) (n : ℕ) (cause : Option Why) → s.cycle ≤ (states w (next w s) n).cycle → s.cycle ≤ (unless_stopped cause s (states w (next w s) n)).cycle
states_later w s n (Some why) le = omega arith
states_later w s n None le = le

not_back : (w : Setting) (s : State) (n : ℕ) → s.cycle ≤ (states w s n).cycle
unfolding states
not_back w s zero = omega arith
not_back w s (suc n) = states_later w s n (stop w s) (let on = not_back w (next w s) n in let one = next_cycle w s in omega (arith, on, one))

number_by : (w : Setting) (s : State) (n : ℕ) (cause : Option Why) → stop w s ≡ cause
    → states w (next w s) n ≡ states w (next w s) ((states w (next w s) n).cycle - (next w s).cycle)
    → states w s (suc n) ≡ states w s ((states w s (suc n)).cycle - s.cycle)
number_by w s n (Some why) e rest = states_here w s why (suc n) e ∙ sym (states_here w s why ((states w s (suc n)).cycle - s.cycle) e)
number_by w s n None e rest =
    let here = states_on w s n e in
    let same = ap (λ (t : State). t.cycle) here in
    let one = next_cycle w s in
    let later = not_back w (next w s) n in
    let few : (states w s (suc n)).cycle - s.cycle ≡ suc ((states w (next w s) n).cycle - (next w s).cycle) = omega (arith, same, one, later) in
    here ∙ rest ∙ sym (states_on w s ((states w (next w s) n).cycle - (next w s).cycle) e) ∙ ap (states w s) (sym few)

by_number : (w : Setting) (s : State) (n : ℕ) → states w s n ≡ states w s ((states w s n).cycle - s.cycle)
by_number w s zero =
    let same = ap (λ (t : State). t.cycle) (no_cycles w s) in
    let none : (states w s zero).cycle - s.cycle ≡ 0 = omega (arith, same) in
    ap (states w s) (sym none)
by_number w s (suc n) = number_by w s n (stop w s) refl (by_number w (next w s) n)

pub own_number : (w : Setting) (s t : State) → GoesOn w s t → t ≡ states w s (t.cycle - s.cycle)
own_number w s t on = subst (λ (x : State). x ≡ states w s (x.cycle - s.cycle)) (sym on.state) (by_number w s on.count)

last_later : (w : Setting) (s : State) → s.cycle ≤ (last_state w s).cycle
unfolding last_state
last_later w s = not_back w s (w.limit - s.cycle)

pub on_run_by : (w : Setting) (first s : State) → first.cycle ≤ s.cycle → GoesOn w first s → last_state w s ≡ last_state w first → IsOnRun w first s
on_run_by w first s forward way last = record {
  forward = forward;
  within = subst (λ (t : State). s.cycle ≤ t.cycle) last (last_later w s);
  state = own_number w first s way;
}

pub is_on_run : (w : Setting) (first : State) (p : Position) → Reached w first p → IsOnRun w first p.state
is_on_run w first p r = on_run_by w first p.state r.forward r.way r.last

-- ---- the stop

pub reached_last : (w : Setting) (first : State) (p : Position) (why : Why) → Reached w first p → stop w p.state ≡ Some why → last_position w first ≡ p
reached_last w first p why r e =
    let bound = 2 * (w.limit - first.cycle) + 1 in
    let left = r.left in
    let number = r.number in
    let sum : r.number + (bound - r.number) ≡ bound = omega arith in
    let stopped = subst (λ (q : Position). stop w q.state ≡ Some why) r.here e in
    ap (at_step w first) (sym sum) ∙ stays w first r.number (bound - r.number) why stopped ∙ sym r.here

-- ---- the events

pub shown_on : (w : Setting) (p : Position) → stop w p.state ≡ None → p.state.cycle ≤ w.limit
    → run_shown w p.state ≡ all_shown (step_events w p) ++ run_shown w (next_position w p).state
shown_on w p runs le = ap all_shown (sym (step_then w p runs le)) ∙ shown_both (step_events w p) (all_events w (next_position w p).state)

pub shown_here : (w : Setting) (s : State) (why : Why) → stop w s ≡ Some why → run_shown w s ≡ all_shown []
shown_here w s why e = ap all_shown (events_here w s why e)

-- there was no event left
pub taken_to_stop : {T A U E : Type 0} (took : T → List Shown → T → Type 0) (missed : T → Shown → T → Type 0) (a b c : T) (f g h : ℕ)
    (w : Setting) (first s : State) (why : Why) (x : A) (y : U) → TakesInTurn took
    → TakenBefore took a b f g (run_shown w first) (run_shown w s) → stop w s ≡ Some why
    → Tells {E = E} took missed b c g h (all_shown []) (Ok x)
    → Tells {E = E} took missed a c f h (run_shown w first) (Ok y)
taken_to_stop {T} {A} {U} {E} took missed a b c f g h w first s why x y turn taken e told =
    let here : Tells {A = U} {E = E} took missed b c g h (all_shown []) (Ok y) = record { ok = told.ok; err = tt; cause = tt; count = told.count } in
    taken_last took missed a b c f g h (run_shown w first) (all_shown []) (Ok y) turn
    (taken_same took a b f g (run_shown w first) (run_shown w s) (all_shown []) taken (shown_here w s why e)) here

-- a run stands at its first state before it begins
pub on_run_first : (w : Setting) (s : State) → s.cycle ≤ w.limit → IsOnRun w s s
on_run_first w s le = is_on_run w s (first_position s) (reached_first w s le)

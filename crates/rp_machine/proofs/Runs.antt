-- Runs up to the first state with a stop.
use Rattle.rp_machine.proofs.Shared.{Setting, State, Why, all_events, eqb_tells, events, events_in, last_state, next, next_by, states, stop}
use Rattle.std.proofs.Common.{inl, inr, ◌≢◌, ◌≡◌, ℕ, zero, suc, ◌+◌, ◌-◌, ◌<◌, ◌≤◌, [], ◌++◌, Some, None, refl, sym, ap, arith, ◌∙◌}

-- a state with a stop is the last one, and leaves no events
pub states_here : (w : Setting) (s : State) (why : Why) (n : ℕ) → stop w s ≡ Some why → states w s n ≡ s
unfolding states
states_here w s why zero h = refl
states_here w s why (suc n) h = rw h

pub last_here : (w : Setting) (s : State) (why : Why) → stop w s ≡ Some why → last_state w s ≡ s
unfolding last_state
last_here w s why h = states_here w s why (w.limit - s.cycle) h

pub events_none : (w : Setting) (s : State) (why : Why) (n : ℕ) → stop w s ≡ Some why → events_in w s n ≡ []
unfolding events_in
events_none w s why zero h = refl
events_none w s why (suc n) h = rw h

pub events_here : (w : Setting) (s : State) (why : Why) → stop w s ≡ Some why → all_events w s ≡ []
unfolding all_events
events_here w s why h = events_none w s why (w.limit - s.cycle) h

pub states_on : (w : Setting) (s : State) (n : ℕ) → stop w s ≡ None → states w s (suc n) ≡ states w (next w s) n
unfolding states
states_on w s n h = rw h

pub events_more : (w : Setting) (s : State) (n : ℕ) → stop w s ≡ None → events_in w s (suc n) ≡ events w s ++ events_in w (next w s) n
unfolding events_in
events_more w s n h = rw h

pub next_cycle : (w : Setting) (s : State) → (next w s).cycle ≡ s.cycle + 1
unfolding next next_by
next_cycle w s = refl

-- below the limit a state with no stop has the last state of the next one
pub last_on : (w : Setting) (s : State) → stop w s ≡ None → s.cycle < w.limit → last_state w s ≡ last_state w (next w s)
unfolding last_state
last_on w s h lt =
    let e : w.limit - s.cycle ≡ suc (w.limit - (s.cycle + 1)) = omega arith in
    ap (states w s) e ∙ states_on w s (w.limit - (s.cycle + 1)) h ∙ ap (λ c. states w (next w s) (w.limit - c)) (sym (next_cycle w s))

-- and its events are those of this cycle, and then those of the next one
pub events_on : (w : Setting) (s : State) → stop w s ≡ None → s.cycle < w.limit → all_events w s ≡ events w s ++ all_events w (next w s)
unfolding all_events
events_on w s h lt =
    let e : w.limit - s.cycle ≡ suc (w.limit - (s.cycle + 1)) = omega arith in
    ap (events_in w s) e ∙ events_more w s (w.limit - (s.cycle + 1)) h
    ∙ ap (λ c. events w s ++ events_in w (next w s) (w.limit - c)) (sym (next_cycle w s))

-- there is a stop at the limit
pub below_limit : (w : Setting) (s : State) → stop w s ≡ None → s.cycle ≤ w.limit → s.cycle < w.limit
unfolding stop
below_limit w s h le = elim (eqb_tells s.cycle w.limit) [
  | inl e ↦ absurd (let h2 = rw e.0 at h in cc h2)
  | inr e ↦ let ne : s.cycle ≢ w.limit = e.1 in omega arith
]

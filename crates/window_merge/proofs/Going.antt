-- The way to a cycle goes along the states of the run.
use Rattle.std.proofs.Common.{◌≡◌, ℕ, ◌+◌, ◌-◌, ◌<◌, ◌≤◌, Some, None, refl, ap, sym, ◌∙◌, subst, arith}
use Rattle.window_merge.proofs.Shared.{Setting, Why, next_cycle, runs_follow, states, states_here}
use Rattle.rp_machine.specs.State.{State}
use Rattle.rp_machine.specs.Cycle.{stop, next}
use Rattle.window_merge.proofs.Positions.{along_states}
use Rattle.window_merge.proofs.Windows.{one_more}

-- where the way stands
pub record OnWay (w : Setting) (s : State) (to : ℕ) (now : State) (before steps : ℕ) : Type 0 where
  pub is_states : now ≡ states w s (now.cycle - s.cycle)
  pub later : s.cycle ≤ now.cycle
  pub within : now.cycle ≤ to
  pub limit : now.cycle ≤ w.limit
  pub counted : steps + s.cycle ≡ before + now.cycle

none_yet : (w : Setting) (s : State) (k : ℕ) → k ≡ 0 → s ≡ states w s k
unfolding states
none_yet w s k e = rw e refl

pub way_first : (w : Setting) (s : State) (to steps : ℕ) → s.cycle ≤ to → s.cycle ≤ w.limit → OnWay w s to s steps steps
way_first w s to steps le limit = record { is_states = none_yet w s (s.cycle - s.cycle) (omega arith); later = omega arith; within = le; limit = limit; counted = refl }

pub way_window : (w : Setting) (s : State) (to : ℕ) (now : State) (before steps n : ℕ) (now' : State) (steps' : ℕ) → OnWay w s to now before steps
    → now' ≡ states w now n → now'.cycle ≡ now.cycle + n → now'.cycle ≤ to → steps' ≡ steps + n → OnWay w s to now' before steps'
way_window w s to now before steps n now' steps' h e at le counted =
    let later = h.later in
    let so_far = h.counted in
    record {
      is_states =
          e ∙ ap (λ t. states w t n) h.is_states ∙ sym (runs_follow w s (now.cycle - s.cycle) n).state
          ∙ ap (states w s) (omega (arith, later, at));
      later = omega (arith, later, at);
      within = le;
      limit = subst (λ (t : State). t.cycle ≤ w.limit) (sym e) (along_states w now n h.limit).within;
      counted = omega (arith, so_far, at, counted);
    }

pub way_cycle : (w : Setting) (s : State) (to : ℕ) (now : State) (before steps : ℕ) (now' : State) (steps' : ℕ) → OnWay w s to now before steps → now.cycle < to
    → stop w now ≡ None → now' ≡ next w now → steps' ≡ steps + 1 → OnWay w s to now' before steps'
way_cycle w s to now before steps now' steps' h lt runs e counted =
    let at : now'.cycle ≡ now.cycle + 1 = ap (λ (t : State). t.cycle) e ∙ next_cycle w now in
    way_window w s to now before steps 1 now' steps' h (e ∙ sym (one_more w now runs)) at (omega (arith, lt, at)) counted

pub way_stopped : (w : Setting) (s : State) (to : ℕ) (now : State) (before steps : ℕ) (why : Why) → OnWay w s to now before steps → stop w now ≡ Some why → now ≡ states w s (to - s.cycle)
way_stopped w s to now before steps why h e =
    let later = h.later in
    let within = h.within in
    sym (states_here w now why (to - now.cycle) e)
    ∙ ap (λ t. states w t (to - now.cycle)) h.is_states
    ∙ sym (runs_follow w s (now.cycle - s.cycle) (to - now.cycle)).state
    ∙ ap (states w s) (omega (arith, later, within))

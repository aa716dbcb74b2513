-- Runs from one state to another.
use Rattle.reverse_debug.proofs.Shared.{Advances, IfSome, IsQuiet, None, Option, Path, Setting, Some, State, Why, ap, arith, below_limit, last_cycle, last_state, next, next_cycle, refl, states, states_here, states_on, stop, subst, suc, sym, unless_stopped, zero, ℕ, ◌+◌, ◌-◌, ◌<◌, ◌∙◌, ◌≡◌, ◌≤◌}
use Rattle.rp_machine.proofs.Joining.{join}

pub none_first : (w : Setting) (s : State) → states w s zero ≡ s
unfolding states
none_first w s = refl

same_cycle : (s t : State) → s ≡ t → s.cycle ≡ t.cycle
same_cycle s t e = ap (λ (x : State). x.cycle) e

pub path_here : (w : Setting) (s : State) → Path w s s
path_here w s =
    let e : s.cycle - s.cycle ≡ zero = omega arith in
    record { is = sym (ap (states w s) e ∙ none_first w s); forward = omega arith }

-- m cycles, and then n
pub joined : (w : Setting) (s : State) (m n k : ℕ) → m + n ≡ k → states w s k ≡ states w (states w s m) n
joined w s m n k e = sym (ap (states w s) e) ∙ (join w s m n).state

pub one_on : (w : Setting) (s : State) (n : ℕ) → stop w (states w s n) ≡ None → states w s (n + 1) ≡ next w (states w s n)
one_on w s n none = joined w s n 1 (n + 1) refl ∙ states_on w (states w s n) zero none ∙ none_first w (next w (states w s n))

pub next_at : (w : Setting) (t u : State) → u ≡ next w t → u.cycle ≡ t.cycle + 1
next_at w t u e = same_cycle u (next w t) e ∙ next_cycle w t

pub path_on : (w : Setting) (s t u : State) → Path w s t → stop w t ≡ None → u ≡ next w t → Path w s u
path_on w s t u p none e =
    let n = t.cycle - s.cycle in
    let one : u.cycle ≡ t.cycle + 1 = next_at w t u e in
    let none_there : stop w (states w s (t.cycle - s.cycle)) ≡ None = subst (λ (x : State). stop w x ≡ None) p.is none in
    let le : s.cycle ≤ t.cycle = p.forward in
    let far : u.cycle - s.cycle ≡ (t.cycle - s.cycle) + 1 = omega arith in
    record {
      is =
          e ∙ ap (next w) p.is ∙ sym (one_on w s (t.cycle - s.cycle) none_there)
          ∙ sym (ap (states w s) far);
      forward = omega arith;
    }

pub path_join : (w : Setting) (s t u : State) → Path w s t → Path w t u → Path w s u
path_join w s t u p q =
    let a : s.cycle ≤ t.cycle = p.forward in
    let b : t.cycle ≤ u.cycle = q.forward in
    let far : (t.cycle - s.cycle) + (u.cycle - t.cycle) ≡ u.cycle - s.cycle = omega arith in
    record {
      is =
          q.is ∙ ap (λ (x : State). states w x (u.cycle - t.cycle)) p.is
          ∙ sym (joined w s (t.cycle - s.cycle) (u.cycle - t.cycle) (u.cycle - s.cycle) far);
      forward = omega arith;
    }

-- a run does not pass a stop
pub path_past : (w : Setting) (s t : State) (why : Why) (n : ℕ) → Path w s t → stop w t ≡ Some why → t.cycle - s.cycle ≤ n → states w s n ≡ t
path_past w s t why n p stops le =
    let m = t.cycle - s.cycle in
    let rest : (t.cycle - s.cycle) + (n - (t.cycle - s.cycle)) ≡ n = omega arith in
    joined w s (t.cycle - s.cycle) (n - (t.cycle - s.cycle)) n rest
    ∙ ap (λ (x : State). states w x (n - (t.cycle - s.cycle))) (sym p.is)
    ∙ states_here w t why (n - (t.cycle - s.cycle)) stops

pub path_last : (w : Setting) (s t : State) (why : Why) → Path w s t → stop w t ≡ Some why → t.cycle ≤ w.limit → last_state w s ≡ t
unfolding last_state
path_last w s t why p stops le = path_past w s t why (w.limit - s.cycle) p stops (omega arith)

-- ---- bounds on cycles

forward_unless : (cause : Option Why) (s t : State) → s.cycle ≤ t.cycle → s.cycle ≤ (unless_stopped cause s t).cycle
forward_unless (Some why) s t le = omega arith
forward_unless None s t le = le

within_unless : (cause : Option Why) (s t : State) (most : ℕ) → s.cycle ≤ most → t.cycle ≤ most → (unless_stopped cause s t).cycle ≤ most
within_unless (Some why) s t most a b = a
within_unless None s t most a b = b

states_forward : (w : Setting) (s : State) (n : ℕ) → s.cycle ≤ (states w s n).cycle
unfolding states
states_forward w s zero = omega arith
states_forward w s (suc n) =
    forward_unless (stop w s) s (states w (next w s) n) (let on = states_forward w (next w s) n in omega (arith, on, next_cycle w s))

pub states_within : (w : Setting) (s : State) (n : ℕ) → (states w s n).cycle ≤ s.cycle + n
unfolding states
states_within w s zero = omega arith
states_within w s (suc n) =
    within_unless (stop w s) s (states w (next w s) n) (s.cycle + suc n) (omega arith)
    (let on = states_within w (next w s) n in omega (arith, on, next_cycle w s))

pub last_within : (w : Setting) (s : State) → s.cycle ≤ w.limit → last_cycle w s ≤ w.limit
unfolding last_state
last_within w s le = let most = states_within w s (w.limit - s.cycle) in omega (arith, most)

last_forward : (w : Setting) (s : State) → s.cycle ≤ last_cycle w s
unfolding last_state
last_forward w s = states_forward w s (w.limit - s.cycle)

-- a state on the way has the same last state
pub path_to_last : (w : Setting) (s t : State) → Path w s t → t.cycle ≤ w.limit → last_state w s ≡ last_state w t
unfolding last_state
path_to_last w s t p le =
    let a : s.cycle ≤ t.cycle = p.forward in
    let far : (t.cycle - s.cycle) + (w.limit - t.cycle) ≡ w.limit - s.cycle = omega arith in
    joined w s (t.cycle - s.cycle) (w.limit - t.cycle) (w.limit - s.cycle) far
    ∙ ap (λ (x : State). states w x (w.limit - t.cycle)) (sym p.is)

-- no state on the way is beyond the last one
pub path_in_last : (w : Setting) (s t : State) → Path w s t → t.cycle ≤ w.limit → t.cycle ≤ last_cycle w s
path_in_last w s t p le = subst (λ (x : State). t.cycle ≤ x.cycle) (sym (path_to_last w s t p le)) (last_forward w t)

-- ---- single cycles, up to a cycle

pub way_here : (w : Setting) (s : State) (to steps : ℕ) → s.cycle ≤ w.limit → s.cycle ≤ to → Advances w s to s None steps steps
way_here w s to steps low within = record { path = path_here w s; low = low; within = within; stopped = tt; count = refl }

pub below_to : (w : Setting) (s : State) (to until : ℕ) (why : Option Why) → IfSome why (λ y. (stop w s ≡ Some y) × (s.cycle < until)) → until ≤ to → IfSome why (λ y. (stop w s ≡ Some y) × (s.cycle < to))
below_to w s to until None h le = tt
below_to w s to until (Some why) h le = (h.0, let lt = h.1 in omega arith)

pub way_join : (w : Setting) (s t u : State) (to until : ℕ) (why : Option Why) (before now after : ℕ) → Advances w s to t None before now → Advances w t until u why now after → until ≤ to → Advances w s to u why before after
way_join w s t u to until why before now after h k le = record {
  path = path_join w s t u h.path k.path;
  low = k.low;
  within = omega (arith, k.within);
  stopped = below_to w u to until why k.stopped le;
  count = omega (arith, h.count, k.count);
}

pub way_on : (w : Setting) (s t u : State) (to before now after : ℕ) → Advances w s to t None before now → stop w t ≡ None → u ≡ next w t → t.cycle < to → after ≡ now + 1 → Advances w s to u None before after
way_on w s t u to before now after k none e lt more =
    let one : u.cycle ≡ t.cycle + 1 = next_at w t u e in
    let below : t.cycle < w.limit = below_limit w t none k.low in
    let so_far : now + s.cycle ≡ before + t.cycle = k.count in
    record { path = path_on w s t u k.path none e; low = omega arith; within = omega arith; stopped = tt; count = omega arith }

-- ---- quiet times

pub quiet_there : (w : Setting) (t u : State) (n : ℕ) → u ≡ states w t n → IsQuiet w t n → u.cycle ≡ t.cycle + n
quiet_there w t u n e quiet = same_cycle u (states w t n) e ∙ quiet.cycle n (omega arith)

within_by : (n at most to : ℕ) → (0 < n → at + n ≤ most) → most ≤ to → at ≤ to → at + n ≤ to
within_by zero at most to within near here = omega (arith, here)
within_by (suc n) at most to within near here = let le = within (omega arith) in omega (arith, le, near)

-- so many cycles were passed at once, or none
pub way_passed : (w : Setting) (s t u : State) (to before now after n most : ℕ) → Advances w s to t None before now → u ≡ states w t n → IsQuiet w t n → (0 < n → t.cycle + n ≤ most) → most ≤ to → most ≤ w.limit → after ≡ now + n → Advances w s to u None before after
way_passed w s t u to before now after n most k e quiet within near low more =
    let there : u.cycle ≡ t.cycle + n = quiet_there w t u n e quiet in
    let far : n ≡ u.cycle - t.cycle = omega arith in
    let a : t.cycle + n ≤ to = within_by n t.cycle most to within near k.within in
    let b : t.cycle + n ≤ w.limit = within_by n t.cycle most w.limit within low k.low in
    let so_far : now + s.cycle ≡ before + t.cycle = k.count in
    record { path = path_join w s t u k.path (record { is = e ∙ ap (states w t) far; forward = omega arith }); low = omega arith; within = omega arith; stopped = tt; count = omega arith }

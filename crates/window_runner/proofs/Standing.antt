-- The positions of a run, and the one at which a window is tried.
use Rattle.window_runner.proofs.Shared.{Bool, KnowsSio, None, Option, Setting, Some, State, Why, add-one, ap, arith, below_limit, below_more, eq-eqb, false, if◌then◌else◌, inl, inr, is_none, le-leb, least, left_of, lt-leb, nat_le, ne_eqb, nearer, next, next_cycle, refl, run_ends, states, stop, subst, suc, sym, true, unless_stopped, zero, ℕ, ◌*◌, ◌+◌, ◌-◌, ◌<◌, ◌∙◌, ◌≡◌, ◌≢◌, ◌≤◌, ◌⊎◌}
use Rattle.std.proofs.Math.Bool.{and-false}
use Rattle.lane_look.proofs.Least.{is_least}
use Rattle.rp_machine.proofs.Copies.{sio_known}
use Rattle.window_merge.specs.Window.{Position, first_position, is_tried, by_window, by_cycle, next_position, positions, last_position, window_length}
use Rattle.window_runner.specs.Orders.{begins_window, window_start, onward}

-- ---- the lanes know what SIO holds

unless_known : (cause : Option Why) (s t : State) → KnowsSio s → KnowsSio t → KnowsSio (unless_stopped cause s t)
unless_known None s t a b = b
unless_known (Some why) s t a b = a

knows_states : (w : Setting) (s : State) (n : ℕ) → KnowsSio s → KnowsSio (states w s n)
unfolding states
knows_states w s zero h = h
knows_states w s (suc n) h = unless_known (stop w s) s (states w (next w s) n) h (knows_states w (next w s) n (sio_known.after_a_cycle w s))

knows_by : (w : Setting) (p : Position) (tried : Bool) → KnowsSio p.state
    → KnowsSio (if tried then by_window w (window_length w p.state) p else by_cycle w p).state
knows_by w p true h = knows_states w p.state (window_length w p.state) h
knows_by w p false h = sio_known.after_a_cycle w p.state

knows_on : (w : Setting) (p : Position) → KnowsSio p.state → KnowsSio (next_position w p).state
unfolding next_position
knows_on w p h = knows_by w p (is_tried p.after_empty p.state) h

-- ---- one position after another

one_on : (w : Setting) (p : Position) → Position
one_on w p = unless_stopped (stop w p.state) p (next_position w p)

on_by : (w : Setting) (p : Position) (k : ℕ) (cause : Option Why) → stop w p.state ≡ cause
    → positions w (next_position w p) (suc k) ≡ one_on w (positions w (next_position w p) k)
    → unless_stopped cause p (positions w (next_position w p) (suc k)) ≡ one_on w (unless_stopped cause p (positions w (next_position w p) k))
unfolding one_on
on_by w p k None e rest = rest
on_by w p k (Some why) e rest = rw e refl

-- the last step of some
step_on : (w : Setting) (p : Position) (k : ℕ) → positions w p (suc k) ≡ one_on w (positions w p k)
unfolding positions one_on
step_on w p zero = refl
step_on w p (suc k) = on_by w p k (stop w p.state) refl (step_on w (next_position w p) k)

runs_on : (w : Setting) (p : Position) → stop w p.state ≡ None → one_on w p ≡ next_position w p
unfolding one_on
runs_on w p e = rw e refl

stays_on : (w : Setting) (p : Position) (why : Why) → stop w p.state ≡ Some why → one_on w p ≡ p
unfolding one_on
stays_on w p why e = rw e refl

-- the run's position after so many steps
abbrev pub at_step : Setting → State → ℕ → Position
at_step w s k = positions w (first_position s) k

-- a position with a stop is the last one
pub stays : (w : Setting) (s : State) (k d : ℕ) (why : Why) → stop w (at_step w s k).state ≡ Some why → at_step w s (k + d) ≡ at_step w s k
stays w s k zero why e = ap (at_step w s) (omega arith)
stays w s k (suc d) why e =
    let before = stays w s k d why e in
    let sum : k + suc d ≡ suc (k + d) = omega arith in
    ap (at_step w s) sum ∙ step_on w (first_position s) (k + d) ∙ ap (one_on w) before ∙ stays_on w (at_step w s k) why e

-- the number of windows does not fall
count_by : (w : Setting) (p : Position) (tried : Bool) → p.windows ≤ (if tried then by_window w (window_length w p.state) p else by_cycle w p).windows
count_by w p true = omega arith
count_by w p false = omega arith

count_next : (w : Setting) (p : Position) → p.windows ≤ (next_position w p).windows
unfolding next_position
count_next w p = count_by w p (is_tried p.after_empty p.state)

count_unless : (cause : Option Why) (p q : Position) → p.windows ≤ q.windows → p.windows ≤ (unless_stopped cause p q).windows
count_unless None p q le = le
count_unless (Some why) p q le = omega arith

count_on : (w : Setting) (p : Position) → p.windows ≤ (one_on w p).windows
unfolding one_on
count_on w p = count_unless (stop w p.state) p (next_position w p) (count_next w p)

grows : (w : Setting) (s : State) (k d : ℕ) → (at_step w s k).windows ≤ (at_step w s (k + d)).windows
grows w s k zero = let same : k + 0 ≡ k = omega arith in rw same (omega arith)
grows w s k (suc d) =
    let before = grows w s k d in
    let sum : k + suc d ≡ suc (k + d) = omega arith in
    let here = count_on w (at_step w s (k + d)) in
    let same = ap (λ (p : Position). p.windows) (ap (at_step w s) sum ∙ step_on w (first_position s) (k + d)) in
    omega arith

-- ---- where the run stands

-- at a position that is the one after k steps, after m windows
pub record Standing (w : Setting) (s : State) (m k : ℕ) (p : Position) : Type 0 where
  pub here : p ≡ at_step w s k
  pub counted : p.windows ≡ m
  pub within : p.state.cycle ≤ w.limit
  pub knows : KnowsSio p.state
  -- no earlier position has a stop or more windows, and at none the window m was tried
  pub runs : (j : ℕ) → j < k → stop w (at_step w s j).state ≡ None
  pub few : (j : ℕ) → j < k → (at_step w s j).windows ≤ m
  pub not_yet : (j : ℕ) → j < k → begins_window w m (at_step w s j) ≡ false
  pub left : k + left_of w p ≤ 2 * (w.limit - s.cycle) + 1

pub standing_first : (w : Setting) (s : State) → s.cycle ≤ w.limit → KnowsSio s → Standing w s 0 0 (first_position s)
unfolding positions
standing_first w s le knows = record {
  here = refl;
  counted = refl;
  within = le;
  knows = knows;
  runs = λ j lt. absurd (omega arith);
  few = λ j lt. absurd (omega arith);
  not_yet = λ j lt. absurd (omega arith);
  left = omega arith;
}

pub step_here : (w : Setting) (s : State) (k : ℕ) (p : Position) → p ≡ at_step w s k → stop w p.state ≡ None → next_position w p ≡ at_step w s (k + 1)
step_here w s k p here e =
    sym (runs_on w p e) ∙ ap (one_on w) here ∙ sym (ap (at_step w s) (add-one k) ∙ step_on w (first_position s) k)

pub cycle_on : (w : Setting) (p : Position) → is_tried p.after_empty p.state ≡ false → next_position w p ≡ by_cycle w p
unfolding next_position
cycle_on w p e = rw e refl

pub window_on : (w : Setting) (p : Position) → is_tried p.after_empty p.state ≡ true → next_position w p ≡ by_window w (window_length w p.state) p
unfolding next_position
window_on w p e = rw e refl

-- ---- whether the window m is tried

not_tried : (w : Setting) (m : ℕ) (p : Position) → is_tried p.after_empty p.state ≡ false → begins_window w m p ≡ false
not_tried w m p e = rw e (and-false (is_none (stop w p.state)))

other_window : (w : Setting) (m : ℕ) (p : Position) → p.windows ≢ m → begins_window w m p ≡ false
other_window w m p ne =
    rw (ne_eqb p.windows m ne, and-false (is_tried p.after_empty p.state)) (and-false (is_none (stop w p.state)))

tried_here : (w : Setting) (m : ℕ) (p : Position) → stop w p.state ≡ None → is_tried p.after_empty p.state ≡ true → p.windows ≡ m
    → begins_window w m p ≡ true
tried_here w m p runs tried count = rw (runs, tried, eq-eqb p.windows m count) refl

-- ---- from one position to the next

-- by one cycle
pub standing_cycle : (w : Setting) (s : State) (m k : ℕ) (p : Position) → Standing w s m k p → stop w p.state ≡ None
    → is_tried p.after_empty p.state ≡ false → Standing w s m (k + 1) (next_position w p)
standing_cycle w s m k p h runs none =
    let near = nearer w p runs h.within in
    let fewer = near.fewer in
    let left = h.left in
    let count = ap (λ (q : Position). q.windows) (cycle_on w p none) ∙ h.counted in
    let same = h.here in
    let counted = h.counted in
    record {
      here = step_here w s k p h.here runs;
      counted = count;
      within = near.along.within;
      knows = knows_on w p h.knows;
      runs = below_more (λ j. stop w (at_step w s j).state ≡ None) k h.runs (subst (λ (q : Position). stop w q.state ≡ None) same runs);
      few = below_more (λ j. (at_step w s j).windows ≤ m) k h.few (subst (λ (q : Position). q.windows ≤ m) same (omega arith));
      not_yet = below_more (λ j. begins_window w m (at_step w s j) ≡ false) k h.not_yet
          (subst (λ (q : Position). begins_window w m q ≡ false) same (not_tried w m p none));
      left = omega arith;
    }

-- by a window
pub standing_window : (w : Setting) (s : State) (m k : ℕ) (p : Position) → Standing w s m k p → stop w p.state ≡ None
    → is_tried p.after_empty p.state ≡ true → Standing w s (m + 1) (k + 1) (next_position w p)
standing_window w s m k p h runs tried =
    let near = nearer w p runs h.within in
    let fewer = near.fewer in
    let left = h.left in
    let counted = h.counted in
    let count = ap (λ (q : Position). q.windows) (window_on w p tried) in
    let same = h.here in
    let few : (j : ℕ) → j < k + 1 → (at_step w s j).windows ≤ m =
    below_more (λ j. (at_step w s j).windows ≤ m) k h.few (subst (λ (q : Position). q.windows ≤ m) same (omega arith)) in
    record {
      here = step_here w s k p h.here runs;
      counted = omega arith;
      within = near.along.within;
      knows = knows_on w p h.knows;
      runs = below_more (λ j. stop w (at_step w s j).state ≡ None) k h.runs (subst (λ (q : Position). stop w q.state ≡ None) same runs);
      few = λ j lt. let le = few j lt in omega arith;
      not_yet = λ j lt. other_window w (m + 1) (at_step w s j) (let le = few j lt in λ e. omega (arith, e));
      left = omega arith;
    }

-- ---- on to the next position at which a window is tried

-- it has a stop, or a window is tried there
abbrev pub IsReady : Setting → Position → Type 0
IsReady w p = ((why : Why) × (stop w p.state ≡ Some why)) ⊎ ((stop w p.state ≡ None) × (is_tried p.after_empty p.state ≡ true))

pub record Ready (w : Setting) (s : State) (m : ℕ) (p : Position) : Type 0 where
  pub step : ℕ
  pub standing : Standing w s m step p
  pub ready : IsReady w p

ready_by : (w : Setting) (s : State) (m k : ℕ) (p rest : Position) (cause : Option Why) (tried : Bool) → stop w p.state ≡ cause
    → is_tried p.after_empty p.state ≡ tried → Standing w s m k p
    → (stop w p.state ≡ None → is_tried p.after_empty p.state ≡ false → Ready w s m rest)
    → Ready w s m (unless_stopped cause p (if tried then p else rest))
ready_by w s m k p rest (Some why) tried e t h go = record { step = k; standing = h; ready = inl (why, e) }
ready_by w s m k p rest None true e t h go = record { step = k; standing = h; ready = inr (e, t) }
ready_by w s m k p rest None false e t h go = go e t

at_limit : (w : Setting) (p : Position) (cause : Option Why) → stop w p.state ≡ cause → p.state.cycle ≤ w.limit → w.limit - p.state.cycle ≤ 0 → IsReady w p
at_limit w p None e le none = let lt = below_limit w p.state e le in absurd (omega arith)
at_limit w p (Some why) e le none = inl (why, e)

nearer_cycle : (w : Setting) (p : Position) → is_tried p.after_empty p.state ≡ false → (next_position w p).state.cycle ≡ p.state.cycle + 1
nearer_cycle w p e = ap (λ (q : Position). q.state.cycle) (cycle_on w p e) ∙ next_cycle w p.state

pub onward_ready : (w : Setting) (s : State) (m k : ℕ) (p : Position) (n : ℕ) → Standing w s m k p → w.limit - p.state.cycle ≤ n → Ready w s m (onward w p n)
unfolding onward
onward_ready w s m k p zero h few = record { step = k; standing = h; ready = at_limit w p (stop w p.state) refl h.within few }
onward_ready w s m k p (suc n) h few =
    ready_by w s m k p (onward w (next_position w p) n) (stop w p.state) (is_tried p.after_empty p.state) refl refl h
    (λ runs none. let lt = below_limit w p.state runs h.within in
    let one = nearer_cycle w p none in
    onward_ready w s m (k + 1) (next_position w p) n (standing_cycle w s m k p h runs none) (omega arith))

-- ---- the state at which the window m begins

start_stopped : (w : Setting) (s : State) (m k : ℕ) (p : Position) (why : Why) → Standing w s m k p → stop w p.state ≡ Some why
    → s.cycle ≤ w.limit → window_start w s m ≡ p.state
unfolding window_start
start_stopped w s m k p why h e le =
    let left = h.left in
    let bound = 2 * (w.limit - s.cycle) + 1 in
    let sum : k + (bound - k) ≡ bound = omega arith in
    let stopped = subst (λ (q : Position). stop w q.state ≡ Some why) h.here e in
    let last : last_position w s ≡ p = ap (at_step w s) (sym sum) ∙ stays w s k (bound - k) why stopped ∙ sym h.here in
    let counted = h.counted in
    let few : nat_le (last_position w s).windows m ≡ true =
    ap (λ (q : Position). nat_le q.windows m) last ∙ le-leb p.windows m (omega arith) in
    rw few (sym (run_ends w s le) ∙ ap (λ (q : Position). q.state) last)

start_tried : (w : Setting) (s : State) (m k : ℕ) (p : Position) → Standing w s m k p → stop w p.state ≡ None
    → is_tried p.after_empty p.state ≡ true → window_start w s m ≡ p.state
unfolding window_start
start_tried w s m k p h runs tried =
    let left = h.left in
    let fewer = (nearer w p runs h.within).fewer in
    let bound = 2 * (w.limit - s.cycle) + 1 in
    let next = standing_window w s m k p h runs tried in
    let next_here = ap (λ (q : Position). q.windows) next.here in
    let next_counted = next.counted in
    let sum : (k + 1) + (bound - (k + 1)) ≡ bound = omega arith in
    let more = grows w s (k + 1) (bound - (k + 1)) in
    let same = ap (λ n. (at_step w s n).windows) sum in
    let many : nat_le (last_position w s).windows m ≡ false = lt-leb (last_position w s).windows m (omega arith) in
    let met : begins_window w m (at_step w s k) ≡ true =
    subst (λ (q : Position). begins_window w m q ≡ true) h.here (tried_here w m p runs tried h.counted) in
    let first : least (λ j. begins_window w m (at_step w s j)) bound ≡ k =
    is_least (λ j. begins_window w m (at_step w s j)) bound k (omega arith) h.not_yet (λ lt. met) in
    rw many (ap (λ n. (at_step w s n).state) first ∙ ap (λ (q : Position). q.state) (sym h.here))

start_by : (w : Setting) (s : State) (m k : ℕ) (p : Position) → Standing w s m k p → s.cycle ≤ w.limit → IsReady w p → window_start w s m ≡ p.state
start_by w s m k p h le (inl e) = start_stopped w s m k p e.0 h e.1 le
start_by w s m k p h le (inr e) = start_tried w s m k p h e.0 e.1

pub begins_here : (w : Setting) (s : State) (m : ℕ) (p : Position) → Ready w s m p → s.cycle ≤ w.limit → window_start w s m ≡ p.state
begins_here w s m p h le = start_by w s m h.step p h.standing le h.ready

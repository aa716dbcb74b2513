-- The events and the counts along the positions of a run.
use Rattle.window_runner.proofs.Shared.{Bool, None, Option, Setting, Some, State, Why, [], all_events, ap, append_assoc, arith, below_limit, events, events_along, events_here, events_in, events_more, events_none, events_on, false, has_hold, if◌then◌else◌, last_state, left_of, moves_on, nearer, next, next_cycle, not, not_empty, refl, run_ends, states, states_here, states_on, step_events, stop, subst, suc, sym, true, unless_stopped, window_events, zero, ℕ, ◌*◌, ◌++◌, ◌+◌, ◌-◌, ◌∙◌, ◌≡◌, ◌≤◌}
use Rattle.std.proofs.Math.Dec.{eqb-suc-zero}
use Rattle.window_merge.specs.Window.{Position, first_position, is_tried, by_window, by_cycle, next_position, positions, last_position, window_length}

-- ---- events

-- the events of some cycles, and of those that follow them, are all
split_by : (w : Setting) (s : State) (n : ℕ) (cause : Option Why) → stop w s ≡ cause → s.cycle ≤ w.limit
    → ((runs : stop w s ≡ None) → events_in w (next w s) n ++ all_events w (states w (next w s) n) ≡ all_events w (next w s))
    → events_in w s (suc n) ++ all_events w (states w s (suc n)) ≡ all_events w s
split_by w s n (Some why) e le rest =
    ap (λ es. es ++ all_events w (states w s (suc n))) (events_none w s why (suc n) e) ∙ ap (all_events w) (states_here w s why (suc n) e)
split_by w s n None e le rest =
    ap (λ es. es ++ all_events w (states w s (suc n))) (events_more w s n e)
    ∙ ap (λ t. (events w s ++ events_in w (next w s) n) ++ all_events w t) (states_on w s n e)
    ∙ append_assoc (events w s) (events_in w (next w s) n) (all_events w (states w (next w s) n))
    ∙ ap (λ es. events w s ++ es) (rest e)
    ∙ sym (events_on w s e (below_limit w s e le))

no_events : (w : Setting) (s : State) → events_in w s zero ++ all_events w (states w s zero) ≡ all_events w s
unfolding states events_in
no_events w s = refl

pub events_split : (w : Setting) (s : State) (n : ℕ) → s.cycle ≤ w.limit → events_in w s n ++ all_events w (states w s n) ≡ all_events w s
events_split w s zero le = no_events w s
events_split w s (suc n) le = split_by w s n (stop w s) refl le
    (λ runs. let below = below_limit w s runs le in let cycle = next_cycle w s in events_split w (next w s) n (omega (arith, below, cycle)))

-- the events of a step, and those of the run from there
then_by : (w : Setting) (p : Position) (tried : Bool) → stop w p.state ≡ None → p.state.cycle ≤ w.limit
    → (if tried then events_in w p.state (window_length w p.state) else events w p.state)
    ++ all_events w (if tried then by_window w (window_length w p.state) p else by_cycle w p).state ≡ all_events w p.state
then_by w p true runs le = events_split w p.state (window_length w p.state) le
then_by w p false runs le = sym (events_on w p.state runs (below_limit w p.state runs le))

pub step_then : (w : Setting) (p : Position) → stop w p.state ≡ None → p.state.cycle ≤ w.limit → step_events w p ++ all_events w (next_position w p).state ≡ all_events w p.state
unfolding next_position
step_then w p runs le = then_by w p (is_tried p.after_empty p.state) runs le

along_by : (w : Setting) (p : Position) (n : ℕ) (cause : Option Why) → stop w p.state ≡ cause → p.state.cycle ≤ w.limit
    → ((runs : stop w p.state ≡ None) → events_along w (next_position w p) n ≡ all_events w (next_position w p).state)
    → unless_stopped cause [] (step_events w p ++ events_along w (next_position w p) n) ≡ all_events w p.state
along_by w p n (Some why) e le rest = sym (events_here w p.state why e)
along_by w p n None e le rest = ap (λ es. step_events w p ++ es) (rest e) ∙ step_then w p e le

along_none : (w : Setting) (p : Position) (cause : Option Why) → stop w p.state ≡ cause → p.state.cycle ≤ w.limit → left_of w p ≤ 0 → [] ≡ all_events w p.state
along_none w p (Some why) e le few = sym (events_here w p.state why e)
along_none w p None e le few = let n = (nearer w p e le).fewer in absurd (omega (arith, n, few))

along_all : (w : Setting) (p : Position) (n : ℕ) → p.state.cycle ≤ w.limit → left_of w p ≤ n → events_along w p n ≡ all_events w p.state
unfolding events_along
along_all w p zero le few = along_none w p (stop w p.state) refl le few
along_all w p (suc n) le few = along_by w p n (stop w p.state) refl le
    (λ runs. let step = nearer w p runs le in let fewer = step.fewer in along_all w (next_position w p) n step.along.within (omega (arith, fewer, few)))

pub events_of_windows : (w : Setting) (s : State) → s.cycle ≤ w.limit → window_events w s ≡ all_events w s
events_of_windows w s le = along_all w (first_position s) (2 * (w.limit - s.cycle) + 1) le (omega arith)

-- ---- counts

abbrev pub one_if : Bool → ℕ
one_if b = if b then 1 else 0

-- no more windows were tried than there were cycles from that number on, but for one without a cycle that was the last step;
-- and where that one was, there is no stop
pub record IsCounted (w : Setting) (from : ℕ) (p : Position) : Type 0 where
  pub windows : p.windows + from ≤ p.state.cycle + one_if p.after_empty
  pub goes : p.after_empty ≡ true → stop w p.state ≡ None

pub no_cycles : (w : Setting) (s : State) → states w s zero ≡ s
unfolding states
no_cycles w s = refl

counted_window : (w : Setting) (from n : ℕ) (p : Position) → p.after_empty ≡ false → stop w p.state ≡ None → p.state.cycle ≤ w.limit → IsCounted w from p → IsCounted w from (by_window w n p)
counted_window w from zero p here runs le c =
    let few : p.windows + from ≤ p.state.cycle + one_if false = subst (λ b. p.windows + from ≤ p.state.cycle + one_if b) here c.windows in
    let same : (states w p.state zero).cycle ≡ p.state.cycle = ap (λ (t : State). t.cycle) (no_cycles w p.state) in
    record { windows = omega (arith, few, same); goes = λ e. ap (stop w) (no_cycles w p.state) ∙ runs }
counted_window w from (suc n) p here runs le c =
    let few : p.windows + from ≤ p.state.cycle + one_if false = subst (λ b. p.windows + from ≤ p.state.cycle + one_if b) here c.windows in
    let on = moves_on w p.state n runs le in
    let some = eqb-suc-zero n in
    record { windows = omega (arith, few, on); goes = λ e. absurd (cc (e, some)) }

one_at_most : (b : Bool) → one_if b ≤ 1
one_at_most true = omega arith
one_at_most false = omega arith

counted_cycle : (w : Setting) (from : ℕ) (p : Position) → IsCounted w from p → IsCounted w from (by_cycle w p)
counted_cycle w from p c =
    let few = c.windows in
    let one = one_at_most p.after_empty in
    let cycle = next_cycle w p.state in
    record { windows = omega (arith, few, one, cycle); goes = λ e. absurd (cc e) }

counted_by : (w : Setting) (from : ℕ) (p : Position) (tried : Bool) → is_tried p.after_empty p.state ≡ tried → stop w p.state ≡ None → p.state.cycle ≤ w.limit → IsCounted w from p
    → IsCounted w from (if tried then by_window w (window_length w p.state) p else by_cycle w p)
counted_by w from p true e runs le c = counted_window w from (window_length w p.state) p (not_empty p.after_empty (not (has_hold p.state.fabric)) e) runs le c
counted_by w from p false e runs le c = counted_cycle w from p c

pub counted_next : (w : Setting) (from : ℕ) (p : Position) → stop w p.state ≡ None → p.state.cycle ≤ w.limit → IsCounted w from p → IsCounted w from (next_position w p)
unfolding next_position
counted_next w from p runs le c = counted_by w from p (is_tried p.after_empty p.state) refl runs le c

pub counted_first : (w : Setting) (s : State) → IsCounted w s.cycle (first_position s)
counted_first w s = record { windows = omega arith; goes = λ e. absurd (cc e) }

-- where the run stops no window without a cycle was the last step
counted_stop : (w : Setting) (from : ℕ) (p : Position) (why : Why) (empty : Bool) → p.after_empty ≡ empty → stop w p.state ≡ Some why → IsCounted w from p → p.windows + from ≤ p.state.cycle
counted_stop w from p why true e at c = let runs = c.goes e in absurd (cc (at, runs))
counted_stop w from p why false e at c =
    let few : p.windows + from ≤ p.state.cycle + one_if false = subst (λ b. p.windows + from ≤ p.state.cycle + one_if b) e c.windows in
    omega (arith, few)

last_by : (w : Setting) (from : ℕ) (p : Position) (n : ℕ) (cause : Option Why) → stop w p.state ≡ cause → IsCounted w from p
    → ((runs : stop w p.state ≡ None) → (positions w (next_position w p) n).windows + from ≤ (positions w (next_position w p) n).state.cycle)
    → (unless_stopped cause p (positions w (next_position w p) n)).windows + from ≤ (unless_stopped cause p (positions w (next_position w p) n)).state.cycle
last_by w from p n (Some why) e c rest = counted_stop w from p why p.after_empty refl e c
last_by w from p n None e c rest = rest e

last_none : (w : Setting) (from : ℕ) (p : Position) (cause : Option Why) → stop w p.state ≡ cause → p.state.cycle ≤ w.limit → left_of w p ≤ 0 → IsCounted w from p → p.windows + from ≤ p.state.cycle
last_none w from p (Some why) e le few c = counted_stop w from p why p.after_empty refl e c
last_none w from p None e le few c = let n = (nearer w p e le).fewer in absurd (omega (arith, n, few))

counted_last : (w : Setting) (from : ℕ) (p : Position) (n : ℕ) → p.state.cycle ≤ w.limit → left_of w p ≤ n → IsCounted w from p
    → (positions w p n).windows + from ≤ (positions w p n).state.cycle
unfolding positions
counted_last w from p zero le few c = last_none w from p (stop w p.state) refl le few c
counted_last w from p (suc n) le few c = last_by w from p n (stop w p.state) refl c
    (λ runs. let step = nearer w p runs le in let fewer = step.fewer in
    counted_last w from (next_position w p) n step.along.within (omega (arith, fewer, few)) (counted_next w from p runs le c))

pub few_windows : (w : Setting) (s : State) → s.cycle ≤ w.limit → (last_position w s).windows + s.cycle ≤ (last_state w s).cycle
few_windows w s le =
    let few = counted_last w s.cycle (first_position s) (2 * (w.limit - s.cycle) + 1) le (omega arith) (counted_first w s) in
    subst (λ (t : State). (last_position w s).windows + s.cycle ≤ t.cycle) (run_ends w s le) few

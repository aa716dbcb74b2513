-- The positions of a run: each step goes along the states of the run, and there are enough of them.
use Rattle.std.proofs.Common.{◌≡◌, ℕ, zero, suc, ◌+◌, ◌-◌, ◌*◌, ◌<◌, ◌≤◌, ◌&&◌, Bool, true, false, not, nat_eq, if◌then◌else◌, Option, Some, None, refl, sym, arith}
use Rattle.window_merge.proofs.Shared.{Position, Setting, Why, by_window, eqb_tells, first_position, last_position, last_state, next_position, positions, states, unless_stopped}
use Rattle.rp_machine.specs.State.{State}
use Rattle.rp_machine.specs.Cycle.{stop, next}
use Rattle.rp_machine.proofs.Runs.{states_on, last_here, last_on, below_limit, next_cycle}

-- ---- along the states of a run

-- at most at the limit, and the run ends in the same state
pub record Along (w : Setting) (s t : State) : Type 0 where
  pub within : t.cycle ≤ w.limit
  pub later : s.cycle ≤ t.cycle
  pub last : last_state w t ≡ last_state w s

along_here : (w : Setting) (s : State) → s.cycle ≤ w.limit → Along w s s
along_here w s le = record { within = le; later = omega arith; last = refl }

along_next : (w : Setting) (s : State) → stop w s ≡ None → s.cycle ≤ w.limit → Along w s (next w s)
along_next w s runs le = grind (arith, below_limit, next_cycle, last_on)

along_by : (w : Setting) (s : State) (n : ℕ) (cause : Option Why) → stop w s ≡ cause → s.cycle ≤ w.limit
    → ((runs : stop w s ≡ None) → Along w (next w s) (states w (next w s) n))
    → Along w s (unless_stopped cause s (states w (next w s) n))
along_by w s n cause h1 h2 h3 = search (arith, along_next, along_here)

pub along_states : (w : Setting) (s : State) (n : ℕ) → s.cycle ≤ w.limit → Along w s (states w s n)
unfolding states
along_states w s zero le = along_here w s le
along_states w s (suc n) le = along_by w s n (stop w s) refl le (λ runs. along_states w (next w s) n (along_next w s runs le).within)

-- a window with a cycle moves on
pub moves_on : (w : Setting) (s : State) (n : ℕ) → stop w s ≡ None → s.cycle ≤ w.limit → s.cycle < (states w s (suc n)).cycle
moves_on w s n runs le = grind (arith, along_next, along_states, next_cycle, states_on)

-- ---- the steps

-- how many steps are left at most: two for each cycle, and one where a window may be tried
abbrev pub left_of : Setting → Position → ℕ
left_of w p = 2 * (w.limit - p.state.cycle) + (if p.after_empty then 0 else 1)

pub record Nearer (w : Setting) (p q : Position) : Type 0 where
  pub along : Along w p.state q.state
  pub fewer : left_of w q < left_of w p

-- a window without a cycle is not tried again
nearer_none : (w : Setting) (p : Position) → p.after_empty ≡ false → left_of w (by_window w 0 p) < left_of w p
unfolding states
nearer_none w p here = rw here (omega arith)

fewer_cycle : (b : Bool) (x y : ℕ) → y + 1 ≡ x → 2 * y + 1 < 2 * x + (if b then 0 else 1)
fewer_cycle b x y h1 = grind arith

pub not_empty : (a b : Bool) → (not a && b) ≡ true → a ≡ false
not_empty a b h1 = grind arith

nearer_by : (w : Setting) (p : Position) (n : ℕ) (empty : Bool) → nat_eq n 0 ≡ empty → p.after_empty ≡ false → stop w p.state ≡ None → p.state.cycle ≤ w.limit
    → left_of w (by_window w n p) < left_of w p
nearer_by w p zero true e here runs le = nearer_none w p here
nearer_by w p zero false e here runs le = absurd (cc e)
nearer_by w p (suc n) true e here runs le = grind (arith, eqb_tells)
nearer_by w p (suc n) false e here runs le = grind (arith, moves_on, along_states)

pub nearer : (w : Setting) (p : Position) → stop w p.state ≡ None → p.state.cycle ≤ w.limit → Nearer w p (next_position w p)
unfolding next_position
nearer w p runs le = search (arith, not_empty, along_states, nearer_by, along_next, next_cycle, below_limit, fewer_cycle)

-- ---- the last position

ends_by : (w : Setting) (p : Position) (n : ℕ) (cause : Option Why) → stop w p.state ≡ cause → p.state.cycle ≤ w.limit → left_of w p ≤ suc n
    → ((runs : stop w p.state ≡ None) → (positions w (next_position w p) n).state ≡ last_state w (next_position w p).state)
    → (unless_stopped cause p (positions w (next_position w p) n)).state ≡ last_state w p.state
ends_by w p n cause h1 h2 h3 h4 = grind (arith, nearer, last_here)

-- where nothing is left the run stands at its limit
none_left : (w : Setting) (p : Position) (cause : Option Why) → stop w p.state ≡ cause → p.state.cycle ≤ w.limit → left_of w p ≤ 0 → p.state ≡ last_state w p.state
none_left w p None e le few =
    let n = (nearer w p e le).fewer in
    absurd (omega arith)
none_left w p (Some why) e le few = sym (last_here w p.state why e)

pub ends_in_last : (w : Setting) (p : Position) (n : ℕ) → p.state.cycle ≤ w.limit → left_of w p ≤ n → (positions w p n).state ≡ last_state w p.state
unfolding positions
ends_in_last w p zero le few = none_left w p (stop w p.state) refl le few
ends_in_last w p (suc n) le few = ends_by w p n (stop w p.state) refl le few
    (λ runs. let step = nearer w p runs le in let fewer = step.fewer in ends_in_last w (next_position w p) n step.along.within (omega arith))

pub run_ends : (w : Setting) (s : State) → s.cycle ≤ w.limit → (last_position w s).state ≡ last_state w s
run_ends w s le = ends_in_last w (first_position s) (2 * (w.limit - s.cycle) + 1) le (omega arith)

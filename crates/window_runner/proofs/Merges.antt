-- The merge of six runs alone is a window.
use Rattle.window_runner.proofs.Shared.{AreRunsAlone, Bool, KnowsSio, List, Mark, Setting, SixReports, Stands, State, Tries, [], add-one, ap, arith, begun_by, ends_full, ends_in, ends_run, ends_tried, eqb_tells, false, fits, has_hold, inl, inr, least_meets, left_by, longest, next_by, not, not-false, not-true, on_of, or_parts, refl, runs_of, stands_first, stands_next, states, suc, true, wanted, window_length, zero, ℕ, ◌++◌, ◌<◌, ◌||◌, ◌∙◌, ◌∷◌, ◌≡◌, ◌≢◌, ◌≤◌}
use Rattle.outer_lane.specs.Step as outer
use Rattle.window_merge.specs.declared.runs.Rests.{Rests}
use Rattle.window_merge.proofs.Lanes.{log_alone, below_least}
use Rattle.window_runner.specs.Merge.{logs_of, by_logs, any_ends, merge_ends, merged_length, merged}

ends_as : (w : Setting) (s : State) (six : SixReports) (k : ℕ) → AreRunsAlone w s six → ends_in (runs_of w s (longest w s)) k ≡ any_ends six k
ends_as w s six k h =
    rw (← h.core0.same_length, ← h.core1.same_length, ← h.dma.same_length, ← h.pio0.same_length, ← h.pio1.same_length, ← h.outer.same_length) refl

-- what the merge begins with
pub record Starts (w : Setting) (s : State) (six : SixReports) : Type 0 where
  pub free : has_hold s.fabric ≡ false
  pub knows : KnowsSio s
  pub alone : AreRunsAlone w s six

-- after k cycles none of which ends it, it stands where the window stands
record AtCycle (w : Setting) (s : State) (six : SixReports) (k : ℕ) : Type 0 where
  marks : List Mark
  stands : Stands w s k (by_logs w six s k).state (by_logs w six s k).rests marks

first_at : (w : Setting) (s : State) (six : SixReports) → Starts w s six → AtCycle w s six 0
unfolding by_logs
first_at w s six h = record {
  marks = [];
  stands = stands_first w s (logs_of six) [] h.free h.knows (record {
    core0 = log_alone h.alone.core0;
    core1 = log_alone h.alone.core1;
    dma = log_alone h.alone.dma;
    pio0 = log_alone h.alone.pio0;
    pio1 = log_alone h.alone.pio1;
    outer = log_alone h.alone.outer;
  }) refl;
}

tries_at : (w : Setting) (s : State) (six : SixReports) (k : ℕ) (now : State) (rests : Rests) (marks : List Mark) → AreRunsAlone w s six
    → Stands w s k now rests marks → any_ends six k ≡ false → k < longest w s → Tries w s k now rests marks
tries_at w s six k now rests marks h stands e lt =
    record { stands = stands; on = on_of w s k (ends_as w s six k h ∙ e); below = lt }

next_stands : (w : Setting) (s : State) (six : SixReports) (k : ℕ) (now : State) (rests : Rests) (marks : List Mark)
    → Tries w s k now rests marks → fits rests now ≡ true
    → Stands w s (suc k) (next_by w (begun_by rests now) (wanted (begun_by rests now)) now) (left_by rests now)
    (marks ++ outer.marked w now.outer (begun_by rests now).outer ∷ [])
next_stands w s six k now rests marks t e =
    rw (← add-one) (stands_next w s k now rests marks (next_by w (begun_by rests now) (wanted (begun_by rests now)) now)
    (left_by rests now) (marks ++ outer.marked w now.outer (begun_by rests now).outer ∷ []) t e refl refl refl)

next_at : (w : Setting) (s : State) (six : SixReports) (k : ℕ) → AreRunsAlone w s six → AtCycle w s six k → merge_ends w six s k ≡ false
    → k < longest w s → AtCycle w s six (suc k)
unfolding by_logs merge_ends
next_at w s six k h at e lt =
    let now = by_logs w six s k in
    let parts = or_parts (any_ends six k) (not (fits now.rests now.state)) e in
    let t = tries_at w s six k now.state now.rests at.marks h at.stands parts.0 lt in
    record {
      marks = at.marks ++ outer.marked w now.state.outer (begun_by now.rests now.state).outer ∷ [];
      stands = next_stands w s six k now.state now.rests at.marks t (not-false (fits now.rests now.state) parts.1);
    }

at_cycle : (w : Setting) (s : State) (six : SixReports) (k : ℕ) → Starts w s six → k ≤ longest w s
    → ((j : ℕ) → j < k → merge_ends w six s j ≡ false) → AtCycle w s six k
at_cycle w s six zero h le on = first_at w s six h
at_cycle w s six (suc k) h le on =
    next_at w s six k h.alone (at_cycle w s six k h (omega arith) (λ j lt. on j (omega arith))) (on k (omega arith)) (omega arith)

-- ---- its end

ends_by : (w : Setting) (s : State) (six : SixReports) (k : ℕ) (now : State) (rests : Rests) (marks : List Mark) (ended : Bool)
    → AreRunsAlone w s six → Stands w s k now rests marks → k < longest w s → any_ends six k ≡ ended
    → (ended || not (fits rests now)) ≡ true → k ≡ window_length w s
ends_by w s six k now rests marks true h stands lt e either =
    ends_run w s k now rests marks stands lt (ends_as w s six k h ∙ e)
ends_by w s six k now rests marks false h stands lt e either =
    ends_tried w s k now rests marks (tries_at w s six k now rests marks h stands e lt) (not-true (fits rests now) either)

ends_here : (w : Setting) (s : State) (six : SixReports) (k : ℕ) → AreRunsAlone w s six → AtCycle w s six k → k < longest w s
    → merge_ends w six s k ≡ true → k ≡ window_length w s
unfolding merge_ends
ends_here w s six k h at lt e =
    let now = by_logs w six s k in
    ends_by w s six k now.state now.rests at.marks (any_ends six k) h at.stands lt refl e

ends_at : (w : Setting) (s : State) (six : SixReports) (k : ℕ) → AreRunsAlone w s six → AtCycle w s six k → k ≤ longest w s
    → (k < longest w s → merge_ends w six s k ≡ true) → k ≡ window_length w s
ends_at w s six k h at le met = elim (eqb_tells k (longest w s)) [
  | inl e ↦ ends_full w s k (by_logs w six s k).state (by_logs w six s k).rests at.marks at.stands e.1
  | inr e ↦ let ne : k ≢ longest w s = e.1 in
      let lt : k < longest w s = omega arith in
      ends_here w s six k h at lt (met lt)
]

-- the length and the state of the window
pub record IsWindow (w : Setting) (s : State) (six : SixReports) : Type 0 where
  pub length : merged_length w six s ≡ window_length w s
  pub state : merged w six s ≡ states w s (window_length w s)

pub merges : (w : Setting) (s : State) (six : SixReports) → Starts w s six → IsWindow w s six
unfolding merged_length
merges w s six h =
    let n = merged_length w six s in
    let end = least_meets (merge_ends w six s) (longest w s) in
    let at = at_cycle w s six n h end.within (λ j lt. below_least (merge_ends w six s) (longest w s) j lt) in
    let same = ends_at w s six n h.alone at end.within end.met in
    record { length = same; state = at.stands.is_states ∙ ap (states w s) same }

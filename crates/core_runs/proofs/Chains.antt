-- Runs that are chained, and the core's own stepping.
use Rattle.std.proofs.Common.{◌≡◌, ℕ, zero, suc, ◌+◌, ◌<◌, Bool, true, false, ◌||◌, List, [], ◌∷◌, refl, sym, ap, ap₂, ◌∙◌, arith, append_assoc, append-nil, true≢false}
use Rattle.std.specs.List.{list_any}
use Rattle.std.proofs.lemmas.Bool.{or_parts}
use Rattle.lane_look.specs.declared.lane.Want.{Want}
use Rattle.lane_look.specs.declared.lane.Want.TheVariants as want
use Rattle.lane_look.specs.declared.lane.Turn.TheVariants as turn
use Rattle.lane_look.specs.Replay.{turn_alone}
use Rattle.lane_look.specs.Alone.{Alone, alone, alone_cycle, ends_at, ends_now, ends_want}
use Rattle.m0_core.specs.State.{State}
use Rattle.m0_core.specs.Cycle.{next}
use Rattle.core_laws.specs.Laws.{turn_of, begun_in, after_cycle, wanted_in, wants_in}
use Rattle.core_runs.specs.Bytes.{stored, around}
use Rattle.core_runs.specs.Runs.{core_lane, run, ends_in, then, ARunAloneChains, given_by, givens, IsStepped, ARunAloneIsTheCoresOwn}

-- ---- n + k cycles

run_none : (cycle : ℕ) (s : State) (m : List ℕ) → run cycle 0 s m ≡ record { state = s; around = m; talk = []; marks = [] }
unfolding alone
run_none cycle s m = refl

run_next : (cycle n : ℕ) (s : State) (m : List ℕ) → run cycle (suc n) s m ≡ alone_cycle core_lane around tt (cycle + n) (run cycle n s m)
unfolding alone
run_next cycle n s m = refl

then_none : (r : Alone State (List ℕ)) → r ≡ then r (record { state = r.state; around = r.around; talk = []; marks = [] })
then_none r = ap₂ (λ ts ms. record { state = r.state; around = r.around; talk = ts; marks = ms }) (sym (append-nil r.talk)) (sym (append-nil r.marks))

-- a cycle behind both is one behind the second
then_cycle : (cycle : ℕ) (r q : Alone State (List ℕ)) → alone_cycle core_lane around tt cycle (then r q) ≡ then r (alone_cycle core_lane around tt cycle q)
then_cycle cycle r q =
    let one = alone_cycle core_lane around tt cycle (then r q) in
    ap₂ (λ ts ms. record { state = one.state; around = one.around; talk = ts; marks = ms }) (append_assoc r.talk q.talk _) (append_assoc r.marks q.marks _)

run_both : (cycle n k : ℕ) (s : State) (m : List ℕ) → let r = run cycle n s m in run cycle (n + k) s m ≡ then r (run (cycle + n) k r.state r.around)
run_both cycle n zero s m =
    let r = run cycle n s m in
    let none : n + 0 ≡ n = omega arith in
    ap (λ i. run cycle i s m) none ∙ then_none r ∙ ap (then r) (sym (run_none (cycle + n) r.state r.around))
run_both cycle n (suc k) s m =
    let r = run cycle n s m in
    let q = run (cycle + n) k r.state r.around in
    let more : n + suc k ≡ suc (n + k) = omega arith in
    let at : cycle + (n + k) ≡ cycle + n + k = omega arith in
    ap (λ i. run cycle i s m) more
    ∙ run_next cycle (n + k) s m
    ∙ ap₂ (λ c x. alone_cycle core_lane around tt c x) at (run_both cycle n k s m)
    ∙ then_cycle (cycle + n + k) r q
    ∙ ap (then r) (sym (run_next (cycle + n) k r.state r.around))

ends_both : (cycle n k : ℕ) (s : State) (m : List ℕ) → let r = run cycle n s m in ends_in cycle (n + k) s m ≡ ends_in (cycle + n) k r.state r.around
unfolding ends_at
ends_both cycle n k s m =
    let at : cycle + (n + k) ≡ cycle + n + k = omega arith in
    ap₂ (λ c (x : Alone State (List ℕ)). ends_now core_lane around tt c x.state x.around) at (run_both cycle n k s m)

pub a_run_alone_chains : ARunAloneChains
a_run_alone_chains cycle n k s m = record { both = run_both cycle n k s m; ends = ends_both cycle n k s m }

-- ---- the core's own stepping

turn_same : (w : Want) → ends_want w ≡ false → turn_alone w ≡ turn_of w 0
turn_same want.Nothing e = refl
turn_same (want.Ram request) e = refl
turn_same _ e = absurd (true≢false e)

-- the first cycle
pub record IsFirst (cycle : ℕ) (s : State) (m : List ℕ) : Type 0 where
  pub goes : ends_in cycle 0 s m ≡ false
  pub core : (run cycle 1 s m).state ≡ after_cycle cycle (given_by m) s
  pub memory : (run cycle 1 s m).around ≡ stored m (wanted_in cycle (given_by m) s)

or_none : (a : Bool) → (a || (false || false)) ≡ a
or_none true = refl
or_none false = refl

first_of_run : (cycle : ℕ) (s : State) (m : List ℕ) → ends_want (wanted_in cycle (given_by m) s) ≡ false → IsFirst cycle s m
unfolding alone ends_at
first_of_run cycle s m e =
    let none : cycle + 0 ≡ cycle = omega arith in
    record {
      goes = ap (λ c. ends_now core_lane around tt c s m) none ∙ or_none _ ∙ e;
      core = ap (λ c. (alone_cycle core_lane around tt c (record { state = s; around = m; talk = []; marks = [] })).state) none
          ∙ ap (λ t. next s (begun_in cycle (given_by m) s) (t ∷ turn.Nothing ∷ [])) (turn_same (wanted_in cycle (given_by m) s) e);
      memory = ap (λ c. (alone_cycle core_lane around tt c (record { state = s; around = m; talk = []; marks = [] })).around) none;
    }

pub stepped : (cycle n : ℕ) (s : State) (m : List ℕ) → list_any ends_want (wants_in cycle (givens cycle n s m) s) ≡ false → IsStepped cycle n s m
stepped cycle zero s m e = record {
  goes_on = λ k h. absurd (omega (arith, h));
  core = ap (λ (r : Alone State (List ℕ)). r.state) (run_none cycle s m);
  memory = ap (λ (r : Alone State (List ℕ)). r.around) (run_none cycle s m);
}
stepped cycle (suc n) s m e =
    let parts = or_parts _ _ e in
    let u = after_cycle cycle (given_by m) s in
    let m1 = stored m (wanted_in cycle (given_by m) s) in
    let one = first_of_run cycle s m parts.0 in
    let rest = stepped (cycle + 1) n u m1 parts.1 in
    let split : suc n ≡ 1 + n = omega arith in
    let both : run cycle (suc n) s m ≡ then (run cycle 1 s m) (run (cycle + 1) n (run cycle 1 s m).state (run cycle 1 s m).around) =
    ap (λ i. run cycle i s m) split ∙ run_both cycle 1 n s m in
    let moved : run (cycle + 1) n (run cycle 1 s m).state (run cycle 1 s m).around ≡ run (cycle + 1) n u m1 = ap₂ (λ x y. run (cycle + 1) n x y) one.core one.memory in
    record {
      goes_on = later one.goes rest.goes_on one.core one.memory;
      core = ap (λ (r : Alone State (List ℕ)). r.state) both ∙ ap (λ (r : Alone State (List ℕ)). r.state) moved ∙ rest.core;
      memory = ap (λ (r : Alone State (List ℕ)). r.around) both ∙ ap (λ (r : Alone State (List ℕ)). r.around) moved ∙ rest.memory;
    }
  where
    later : ends_in cycle 0 s m ≡ false → ((k : ℕ) → k < n → ends_in (cycle + 1) k (after_cycle cycle (given_by m) s) (stored m (wanted_in cycle (given_by m) s)) ≡ false)
        → (run cycle 1 s m).state ≡ after_cycle cycle (given_by m) s → (run cycle 1 s m).around ≡ stored m (wanted_in cycle (given_by m) s)
        → (k : ℕ) → k < suc n → ends_in cycle k s m ≡ false
    later now rest core memory zero h = now
    later now rest core memory (suc k) h =
        let split : suc k ≡ 1 + k = omega arith in
        ap (λ i. ends_in cycle i s m) split ∙ ends_both cycle 1 k s m ∙ ap₂ (λ x y. ends_in (cycle + 1) k x y) core memory ∙ rest k (omega (arith, h))

pub a_run_alone_is_the_cores_own : ARunAloneIsTheCoresOwn
a_run_alone_is_the_cores_own = stepped

-- A loop that runs a lane alone, and the report that it leaves.
use Rattle.std.proofs.Common.{◌≡◌, ◌≢◌, ℕ, zero, suc, ◌+◌, ◌*◌, ◌^◌, ◌<◌, ◌≤◌, Bool, true, false, not, inl, inr, List, [], ◌++◌, length, refl, ap, sym, ◌∙◌, append-nil, add-one, arith}
use Rattle.std.proofs.lemmas.Bool.Decides.{eqb_tells}
use Rattle.lane_look.specs.declared.lane.Ask.{Ask}
use Rattle.lane_look.specs.declared.marks.Mark.{Mark}
use Rattle.lane_look.specs.Replay.{Meaning, Entry, Replay, replayed}
use Rattle.lane_look.specs.Alone.{Surroundings, Alone, Driven, driven, standing, alone_cycle, alone, ends_now, ends_at, alone_length}
use Rattle.lane_look.specs.declared.replay.Report.{Report}
use Rattle.lane_look.specs.Truth.{IsTrue}
use Rattle.lane_look.proofs.Driven.{as_replay, driven_replayed}
use Rattle.lane_look.proofs.Least.{is_least}

-- where the loop stands after so many cycles
pub record RunsAlone {E S B W : Type 0} (m : Meaning E S B) (a : Surroundings W) (env : E) (before : S) (start : ℕ) (first : W) (k : ℕ) (state : S) (around : W) (log : List Entry) (marks : List Mark) : Type 0 where
  pub is_alone : standing state around log marks ≡ alone m a env before start first k
  pub goes : (j : ℕ) → j < k → ends_at m a env before start first j ≡ false
  pub log_few : length log ≤ 8 * k
  pub marks_few : length marks ≤ k

pub alone_first : {E S B W : Type 0} (m : Meaning E S B) (a : Surroundings W) (env : E) (before : S) (start : ℕ) (first : W) (log : List Entry) (marks : List Mark) → log ≡ [] → marks ≡ [] → RunsAlone m a env before start first 0 before first log marks
unfolding alone
alone_first m a env before start first log marks e_log e_marks = record {
  is_alone = rw (e_log, e_marks) refl;
  goes = λ j lt. absurd (omega arith);
  log_few = rw e_log (omega arith);
  marks_few = rw e_marks (omega arith);
}

-- whether the run ends before the cycle at which the loop stands
ends_here : {E S B W : Type 0} (m : Meaning E S B) (a : Surroundings W) (env : E) (before : S) (start : ℕ) (first : W) (k : ℕ) (state : S) (around : W) (log : List Entry) (marks : List Mark) (cycle : ℕ) → RunsAlone m a env before start first k state around log marks → cycle ≡ start + k → ends_at m a env before start first k ≡ ends_now m a env cycle state around
unfolding ends_at
ends_here {E} {S} {B} {W} m a env before start first k state around log marks cycle r e_cycle =
    rw e_cycle (ap (λ (x : Alone S W). ends_now m a env (start + k) x.state x.around) (sym r.is_alone))

opposite : (b : Bool) (v : Bool) → v ≡ not b → b ≡ not v
opposite true v e = ap not (sym e)
opposite false v e = ap not (sym e)

below_next : (test : ℕ → Bool) (k : ℕ) → ((j : ℕ) → j < k → test j ≡ false) → test k ≡ false → (j : ℕ) → j < k + 1 → test j ≡ false
below_next test k below here j lt = elim (eqb_tells j k) [
  | inl e ↦ ap test e.1 ∙ here
  | inr e ↦ let ne : j ≢ k = e.1 in below j (omega arith)
]

pub alone_next : {E S B W : Type 0} (m : Meaning E S B) (a : Surroundings W) (env : E) (before : S) (start : ℕ) (first : W) (k : ℕ) (state : S) (around : W) (log : List Entry) (marks : List Mark) (cycle : ℕ) (went : Bool) (state' : S) (around' : W) (log' : List Entry) (marks' : List Mark) → RunsAlone m a env before start first k state around log marks → cycle ≡ start + k → went ≡ not (ends_now m a env cycle state around) → went ≡ true → standing state' around' log' marks' ≡ alone_cycle m a env cycle (standing state around log marks) → length log' ≤ length log + 8 → length marks' ≤ length marks + 1 → RunsAlone m a env before start first (k + 1) state' around' log' marks'
unfolding alone
alone_next m a env before start first k state around log marks cycle went state' around' log' marks' r e_cycle e_went is_true e_new few_log few_marks =
    let on : ends_at m a env before start first k ≡ false =
    ends_here m a env before start first k state around log marks cycle r e_cycle ∙ opposite _ _ e_went ∙ ap not is_true in
    let log_so_far = r.log_few in
    let marks_so_far = r.marks_few in
    record {
      is_alone = rw add-one (e_new ∙ ap (alone_cycle m a env cycle) r.is_alone ∙ ap (λ (c : ℕ). alone_cycle m a env c (alone m a env before start first k)) e_cycle);
      goes = below_next (ends_at m a env before start first) k r.goes on;
      log_few = omega arith;
      marks_few = omega arith;
    }

-- the run ends before the cycle at which the loop stands
pub alone_ended : {E S B W : Type 0} (m : Meaning E S B) (a : Surroundings W) (env : E) (before : S) (start : ℕ) (first : W) (k : ℕ) (state : S) (around : W) (log : List Entry) (marks : List Mark) (cycle : ℕ) (went : Bool) (bound : ℕ) → RunsAlone m a env before start first k state around log marks → cycle ≡ start + k → went ≡ not (ends_now m a env cycle state around) → went ≡ false → k < bound → k ≡ alone_length m a env before start first bound
unfolding alone_length
alone_ended m a env before start first k state around log marks cycle went bound r e_cycle e_went is_false lt =
    let ends : ends_at m a env before start first k ≡ true =
    ends_here m a env before start first k state around log marks cycle r e_cycle ∙ opposite _ _ e_went ∙ ap not is_false in
    sym (is_least (ends_at m a env before start first) bound k (omega arith) r.goes (λ below. ends))

-- the loop comes to its bound
pub alone_full : {E S B W : Type 0} (m : Meaning E S B) (a : Surroundings W) (env : E) (before : S) (start : ℕ) (first : W) (k : ℕ) (state : S) (around : W) (log : List Entry) (marks : List Mark) (bound : ℕ) → RunsAlone m a env before start first k state around log marks → k ≡ bound → bound ≡ alone_length m a env before start first bound
unfolding alone_length
alone_full m a env before start first k state around log marks bound r e =
    sym (is_least (ends_at m a env before start first) bound bound (omega arith) (λ j lt. r.goes j (omega arith)) (λ below. absurd (omega arith)))

-- ---- the run alone is driven by what is around the lane, and so it is the replay of its log

abbrev pub as_driven : {S W : Type 0} → Alone S W → Driven S
as_driven r = record { state = r.state; talk = r.talk; marks = r.marks }

-- what answers in each cycle
abbrev pub answers_alone : {E S B W : Type 0} → Meaning E S B → Surroundings W → E → S → ℕ → W → ℕ → Ask → ℕ
answers_alone m a env before start first k = a.answer (alone m a env before start first k).around

pub alone_driven : {E S B W : Type 0} (m : Meaning E S B) (a : Surroundings W) (env : E) (before : S) (start : ℕ) (first : W) (n : ℕ) → driven m env before start (answers_alone m a env before start first) n ≡ as_driven (alone m a env before start first n)
unfolding driven alone
alone_driven m a env before start first zero = refl
alone_driven m a env before start first (suc n) = rw (alone_driven m a env before start first n) refl

pub alone_replayed : {E S B W : Type 0} (m : Meaning E S B) (a : Surroundings W) (env : E) (before : S) (start : ℕ) (first : W) (n : ℕ) (more : List Entry) → replayed m env before start ((alone m a env before start first n).talk ++ more) n ≡ as_replay more (as_driven (alone m a env before start first n))
alone_replayed {E} {S} m a env before start first n more =
    let e = alone_driven m a env before start first n in
    rw e at (driven_replayed m env before start (answers_alone m a env before start first) n more)

-- so its report is true
pub alone_true : {E S B W : Type 0} (m : Meaning E S B) (a : Surroundings W) (env : E) (report : Report S) (lane : S) (first around : W) → lane ≡ report.before → report.length ≤ 256 → report.start + report.length < 2 ^ 64 → standing report.after around report.log report.marks ≡ alone m a env lane report.start first report.length → IsTrue m env report
alone_true {E} {S} {B} {W} m a env report lane first around e_lane short number e_run =
    let e = rw e_lane at e_run in
    let r = alone m a env report.before report.start first report.length in
    let log : report.log ≡ r.talk ++ [] = ap (λ (x : Alone S W). x.talk) e ∙ sym (append-nil r.talk) in
    let again : replayed m env report.before report.start report.log report.length ≡ as_replay [] (as_driven r) =
    ap (λ (es : List Entry). replayed m env report.before report.start es report.length) log ∙ alone_replayed m a env report.before report.start first report.length [] in
    record {
      short = short;
      number = number;
      whole = ap (λ (x : Replay S). x.talk) again ∙ sym (ap (λ (x : Alone S W). x.talk) e);
      lane_after = ap (λ (x : Alone S W). x.state) e ∙ sym (ap (λ (x : Replay S). x.state) again);
      marks_left = ap (λ (x : Alone S W). x.marks) e ∙ sym (ap (λ (x : Replay S). x.marks) again);
    }

-- A true report that is accepted is the lane's run alone.
use Rattle.window_runner.proofs.Shared.{Ask, Asking, Entry, IsAccepted, IsRunAlone, IsTrue, List, Meaning, Report, State, after_begun, all_stored, alone, answer_of, answered, ap, arith, around, asked, begun_alone, differs, eqb-true, false, first_answer, nat_eq, not, not-false, or_parts, others, overlaid, refl, replay_of, replayed, suc, sym, talk, talk_in, told, zero, ℕ, ◌++◌, ◌+◌, ◌<◌, ◌∙◌, ◌∷◌, ◌≡◌, ◌≤◌}
use Rattle.lane_look.specs.Asking.Asking.{Ready, Question}

-- ---- one cycle

-- a log whose answers are those of a function tells what the function answers
record TellsSame {B : Type 0} (f : Ask → ℕ) (log : List Entry) (tree : Asking B) : Type 0 where
  begun : told log tree ≡ answered f tree
  talked : talk log tree ≡ asked f tree

tells_same : {B : Type 0} (f : Ask → ℕ) (log : List Entry) (tree : Asking B) → differs f (talk log tree) ≡ false → TellsSame f log tree
tells_same f log (Ready begun) e = record { begun = refl; talked = refl }
tells_same {B} f log (Question ask next) e =
    let parts = or_parts (not (nat_eq (f ask) (first_answer log))) (differs f (talk (others log) (next (first_answer log)))) e in
    let same : f ask ≡ first_answer log = eqb-true (f ask) (first_answer log) (not-false _ parts.0) in
    let rest = tells_same f (others log) (next (first_answer log)) parts.1 in
    record {
      begun = rest.begun ∙ ap (λ (x : ℕ). answered f (next x)) (sym same);
      talked = ap (λ (es : List Entry). (ask, first_answer log) ∷ es) rest.talked
          ∙ ap (λ (x : ℕ). (ask, x) ∷ asked f (next x)) (sym same);
    }

-- where the lane and what is around it are those of a run alone
record CycleSame {S B : Type 0} (m : Meaning (Unit {0}) S B) (lane cycle : ℕ) (rest : List Entry) (state state' : S) (round : State) : Type 0 where
  begun : told rest (m.asks tt state cycle) ≡ begun_alone m (around lane) tt cycle state' round
  talked : talk rest (m.asks tt state cycle) ≡ asked (answer_of lane round) (m.asks tt state' cycle)

cycle_same : {S B : Type 0} (m : Meaning (Unit {0}) S B) (lane cycle : ℕ) (rest : List Entry) (state state' : S) (over round : State)
    → state ≡ state' → over ≡ round → differs (answer_of lane over) (talk rest (m.asks tt state cycle)) ≡ false
    → CycleSame m lane cycle rest state state' round
cycle_same {S} m lane cycle rest state state' over round e_state e_round e =
    let same = tells_same (answer_of lane over) rest (m.asks tt state cycle) e in
    record {
      begun = same.begun
          ∙ ap (λ (x : State). answered (answer_of lane x) (m.asks tt state cycle)) e_round
          ∙ ap (λ (x : S). answered (answer_of lane round) (m.asks tt x cycle)) e_state;
      talked = same.talked
          ∙ ap (λ (x : State). asked (answer_of lane x) (m.asks tt state cycle)) e_round
          ∙ ap (λ (x : S). asked (answer_of lane round) (m.asks tt x cycle)) e_state;
    }

-- ---- all cycles

-- after k cycles the replay of the report stands where the run alone stands
pub record IsLevel {S B : Type 0} (m : Meaning (Unit {0}) S B) (lane : ℕ) (s : State) (report : Report S) (k : ℕ) : Type 0 where
  pub same_state : (replay_of m tt report k).state ≡ (alone m (around lane) tt report.before report.start s k).state
  pub same_around : overlaid m lane report s k ≡ (alone m (around lane) tt report.before report.start s k).around
  pub same_talk : (replay_of m tt report k).talk ≡ (alone m (around lane) tt report.before report.start s k).talk

pub level_next : {S B : Type 0} (m : Meaning (Unit {0}) S B) (lane : ℕ) (s : State) (report : Report S) (k : ℕ) → IsLevel m lane s report k
    → differs (answer_of lane (overlaid m lane report s k)) (talk_in m report k) ≡ false → IsLevel m lane s report (suc k)
unfolding replayed alone overlaid
level_next {S} {B} m lane s report k h e =
    let r = replay_of m tt report k in
    let a = alone m (around lane) tt report.before report.start s k in
    let over = overlaid m lane report s k in
    let cycle = report.start + k in
    let same = cycle_same m lane cycle r.rest r.state a.state over a.around h.same_state h.same_around e in
    let begun = begun_alone m (around lane) tt cycle a.state a.around in
    record {
      same_state = ap (λ (b : B). after_begun m tt r.state b) same.begun ∙ ap (λ (x : S). after_begun m tt x begun) h.same_state;
      same_around = ap (λ (b : B). all_stored (around lane) over (m.wanted b)) same.begun
          ∙ ap (λ (x : State). all_stored (around lane) x (m.wanted begun)) h.same_around;
      same_talk = ap (λ (es : List Entry). r.talk ++ es) same.talked
          ∙ ap (λ (es : List Entry). es ++ asked (answer_of lane a.around) (m.asks tt a.state cycle)) h.same_talk;
    }

pub level_first : {S B : Type 0} (m : Meaning (Unit {0}) S B) (lane : ℕ) (s : State) (report : Report S) → IsLevel m lane s report 0
unfolding replayed alone overlaid
level_first m lane s report = record { same_state = refl; same_around = refl; same_talk = refl }

level_at : {S B : Type 0} (m : Meaning (Unit {0}) S B) (lane : ℕ) (s : State) (report : Report S) (k : ℕ) → k ≤ report.length
    → ((j : ℕ) → j < report.length → differs (answer_of lane (overlaid m lane report s j)) (talk_in m report j) ≡ false)
    → IsLevel m lane s report k
level_at m lane s report zero le same = level_first m lane s report
level_at m lane s report (suc k) le same =
    level_next m lane s report k (level_at m lane s report k (omega arith) same) (same k (omega arith))

pub accepted_alone : {S B : Type 0} (m : Meaning (Unit {0}) S B) (lane : ℕ) (before : S) (s : State) (bound : ℕ) (report : Report S)
    → IsTrue m tt report → IsAccepted m lane before s bound report → IsRunAlone m lane before s bound report
accepted_alone {S} m lane before s bound report truth h =
    let level = level_at m lane s report report.length (omega arith) h.same_answers in
    record {
      same_start = h.same_start;
      same_lane = h.same_lane;
      same_length = h.same_length;
      same_log = sym truth.whole ∙ level.same_talk
          ∙ ap (λ (b : S). (alone m (around lane) tt b report.start s report.length).talk) h.same_lane
          ∙ ap (λ (c : ℕ). (alone m (around lane) tt before c s report.length).talk) h.same_start;
    }

-- The lane's run alone is accepted.
use Rattle.window_runner.proofs.Shared.{Alone, Ask, Asking, Entry, IsAccepted, IsRunAlone, IsTrue, List, Meaning, Report, State, [], alone, answer_of, ap, append-nil, append_assoc, append_cancel_left, arith, around, asked, core_lane, differs, dma_lane, eq-eqb, false, inl, inr, left, not, overlaid, peripheral_lane, pio_lane, refl, replay_of, replayed, suc, sym, talk, talk_in, zero, ℕ, ◌++◌, ◌+◌, ◌<◌, ◌||◌, ◌∙◌, ◌∷◌, ◌≡◌, ◌≤◌, ◌⊎◌}
use Rattle.lane_look.specs.Asking.Asking.{Ready, Question}
use Rattle.window_runner.specs.AcceptLaws.{IsOne, WhatIsAcceptedIsTheRunAlone}
use Rattle.window_runner.proofs.Accepting.{IsLevel, level_first, level_next, accepted_alone}

-- ---- one cycle

talk_asked : {B : Type 0} (f : Ask → ℕ) (tree : Asking B) (more : List Entry) → talk (asked f tree ++ more) tree ≡ asked f tree
talk_asked f (Ready begun) more = refl
talk_asked f (Question ask next) more = ap (λ (es : List Entry). (ask, f ask) ∷ es) (talk_asked f (next (f ask)) more)

left_asked : {B : Type 0} (f : Ask → ℕ) (tree : Asking B) (more : List Entry) → left (asked f tree ++ more) tree ≡ more
left_asked f (Ready begun) more = refl
left_asked f (Question ask next) more = left_asked f (next (f ask)) more

agrees : {B : Type 0} (f : Ask → ℕ) (tree : Asking B) → differs f (asked f tree) ≡ false
agrees f (Ready begun) = refl
agrees f (Question ask next) =
    ap (λ b. not b || differs f (asked f (next (f ask)))) (eq-eqb (f ask) (f ask) refl) ∙ agrees f (next (f ask))

-- ---- all cycles

abbrev pub run : {S B : Type 0} → Meaning (Unit {0}) S B → ℕ → State → Report S → ℕ → Alone S State
run m lane s report k = alone m (around lane) tt report.before report.start s k

abbrev asked_at : {S B : Type 0} → Meaning (Unit {0}) S B → ℕ → State → Report S → ℕ → List Entry
asked_at m lane s report k =
    asked (answer_of lane (run m lane s report k).around) (m.asks tt (run m lane s report k).state (report.start + k))

talk_more : {S B : Type 0} (m : Meaning (Unit {0}) S B) (lane : ℕ) (s : State) (report : Report S) (k : ℕ) →
    (run m lane s report (suc k)).talk ≡ (run m lane s report k).talk ++ asked_at m lane s report k
unfolding alone
talk_more m lane s report k = refl

below_or_last : (k n : ℕ) → k ≤ suc n → (k ≤ n) ⊎ (k ≡ suc n)
below_or_last k n h = grind arith

-- what a run asks in its first cycles comes first in what it asks
record Begins (long short : List Entry) : Type 0 where
  more : List Entry
  is : long ≡ short ++ more

begins : {S B : Type 0} (m : Meaning (Unit {0}) S B) (lane : ℕ) (s : State) (report : Report S) (k n : ℕ) → k ≤ n →
    Begins (run m lane s report n).talk (run m lane s report k).talk
begins m lane s report k zero le =
    let e : k ≡ 0 = omega (arith, le) in
    record { more = []; is = ap (λ j. (run m lane s report j).talk) (sym e) ∙ sym (append-nil (run m lane s report k).talk) }
begins m lane s report k (suc n) le =
    elim (below_or_last k n le) [
      | inl low ↦
          let h = begins m lane s report k n low in
          record {
            more = h.more ++ asked_at m lane s report n;
            is = talk_more m lane s report n ∙ ap (λ (es : List Entry). es ++ asked_at m lane s report n) h.is
                ∙ append_assoc (run m lane s report k).talk h.more (asked_at m lane s report n);
          }
      | inr e ↦ record { more = []; is = ap (λ j. (run m lane s report j).talk) (sym e) ∙ sym (append-nil (run m lane s report k).talk) }
    ]

-- after k cycles the replay stands where the run alone stands, with what the run asks from there on
pub record IsAlong {S B : Type 0} (m : Meaning (Unit {0}) S B) (lane : ℕ) (s : State) (report : Report S) (k : ℕ) : Type 0 where
  pub level : IsLevel m lane s report k
  rest : report.log ≡ (run m lane s report k).talk ++ (replay_of m tt report k).rest

along_first : {S B : Type 0} (m : Meaning (Unit {0}) S B) (lane : ℕ) (s : State) (report : Report S) → IsAlong m lane s report 0
unfolding alone replayed
along_first m lane s report = record { level = level_first m lane s report; rest = refl }

-- what the replay has left is what the run asks in this cycle, and more
record IsNext {S B : Type 0} (m : Meaning (Unit {0}) S B) (lane : ℕ) (s : State) (report : Report S) (k : ℕ) : Type 0 where
  more : List Entry
  whole : report.log ≡ (run m lane s report (suc k)).talk ++ more
  is : (replay_of m tt report k).rest ≡ asked_at m lane s report k ++ more

is_next : {S B : Type 0} (m : Meaning (Unit {0}) S B) (lane : ℕ) (s : State) (report : Report S) (k : ℕ) → IsAlong m lane s report k →
    report.log ≡ (run m lane s report report.length).talk → k < report.length → IsNext m lane s report k
is_next m lane s report k h log low =
    let b = begins m lane s report (suc k) report.length (omega (arith, low)) in
    record {
      more = b.more;
      whole = log ∙ b.is;
      is = append_cancel_left (run m lane s report k).talk _ _
          (sym h.rest ∙ log ∙ b.is ∙ ap (λ (es : List Entry). es ++ b.more) (talk_more m lane s report k)
          ∙ append_assoc (run m lane s report k).talk (asked_at m lane s report k) b.more);
    }

same_now : {S B : Type 0} (m : Meaning (Unit {0}) S B) (lane : ℕ) (s : State) (report : Report S) (k : ℕ) → IsLevel m lane s report k → IsNext m lane s report k →
    differs (answer_of lane (overlaid m lane report s k)) (talk_in m report k) ≡ false
same_now {S} m lane s report k h next =
    let r = replay_of m tt report k in
    let a = run m lane s report k in
    let cycle = report.start + k in
    ap (λ (o : State). differs (answer_of lane o) (talk r.rest (m.asks tt r.state cycle))) h.same_around
    ∙ ap (λ (x : S). differs (answer_of lane a.around) (talk r.rest (m.asks tt x cycle))) h.same_state
    ∙ ap (λ (es : List Entry). differs (answer_of lane a.around) (talk es (m.asks tt a.state cycle))) next.is
    ∙ ap (differs (answer_of lane a.around)) (talk_asked (answer_of lane a.around) (m.asks tt a.state cycle) next.more)
    ∙ agrees (answer_of lane a.around) (m.asks tt a.state cycle)

left_now : {S B : Type 0} (m : Meaning (Unit {0}) S B) (lane : ℕ) (s : State) (report : Report S) (k : ℕ) → IsLevel m lane s report k →
    (next : IsNext m lane s report k) → (replay_of m tt report (suc k)).rest ≡ next.more
unfolding replayed
left_now {S} m lane s report k h next =
    let r = replay_of m tt report k in
    let a = run m lane s report k in
    let cycle = report.start + k in
    ap (λ (x : S). left r.rest (m.asks tt x cycle)) h.same_state
    ∙ ap (λ (es : List Entry). left es (m.asks tt a.state cycle)) next.is
    ∙ left_asked (answer_of lane a.around) (m.asks tt a.state cycle) next.more

pub along : {S B : Type 0} (m : Meaning (Unit {0}) S B) (lane : ℕ) (s : State) (report : Report S) (k : ℕ) →
    report.log ≡ (run m lane s report report.length).talk → k ≤ report.length → IsAlong m lane s report k
along m lane s report zero log le = along_first m lane s report
along m lane s report (suc k) log le =
    let h = along m lane s report k log (omega (arith, le)) in
    let next = is_next m lane s report k h log (omega (arith, le)) in
    record {
      level = level_next m lane s report k h.level (same_now m lane s report k h.level next);
      rest = next.whole ∙ ap (λ (es : List Entry). (run m lane s report (suc k)).talk ++ es) (sym (left_now m lane s report k h.level next));
    }

pub alone_accepted : {S B : Type 0} (m : Meaning (Unit {0}) S B) (lane : ℕ) (before : S) (s : State) (bound : ℕ) (report : Report S)
    → IsRunAlone m lane before s bound report → IsAccepted m lane before s bound report
alone_accepted {S} m lane before s bound report h =
    let log : report.log ≡ (run m lane s report report.length).talk =
    h.same_log ∙ ap (λ (b : S). (alone m (around lane) tt b s.cycle s report.length).talk) (sym h.same_lane)
    ∙ ap (λ (c : ℕ). (alone m (around lane) tt report.before c s report.length).talk) (sym h.same_start) in
    record {
      same_start = h.same_start;
      same_lane = h.same_lane;
      same_answers = λ k low.
          let a = along m lane s report k log (omega (arith, low)) in
          same_now m lane s report k a.level (is_next m lane s report k a log low);
      same_length = h.same_length;
    }

one : {S B : Type 0} (m : Meaning (Unit {0}) S B) (lane : ℕ) (before : S) (s : State) (bound : ℕ) (report : Report S) → IsTrue m tt report →
    IsOne m lane before s bound report
one m lane before s bound report truth = record {
  then_alone = accepted_alone m lane before s bound report truth;
  then_accepted = alone_accepted m lane before s bound report;
}

pub what_is_accepted : WhatIsAcceptedIsTheRunAlone
what_is_accepted w s bound = record {
  core0 = λ report truth. one core_lane 0 s.core0 s bound report truth;
  core1 = λ report truth. one core_lane 1 s.core1 s bound report truth;
  dma = λ report truth. one dma_lane 2 s.dma.block s bound report truth;
  pio0 = λ report truth. one pio_lane 3 s.pio0.block s bound report truth;
  pio1 = λ report truth. one pio_lane 4 s.pio1.block s bound report truth;
  outer = λ report truth. one (peripheral_lane w) 5 s.outer s bound report truth;
}

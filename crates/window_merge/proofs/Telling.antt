-- The first entry in which a true report differs from its lane's run alone has the same question, and another answer.
use Rattle.std.proofs.Common.{◌≡◌, ◌⊎◌, ℕ, zero, suc, ◌+◌, inl, inr, List, [], ◌∷◌, ◌++◌, refl}
use Rattle.window_merge.proofs.Shared.{Ask, Asking, DifferAt, IsTrue, OtherAnswerAt, Question, Ready, Report, alone, answer_of, answered, arith, around, cases_lt, eqb_tells, replay_of, slice_get_within, subst, take-append-le, talk_alone}
use Rattle.lane_look.specs.Replay.{Meaning, Entry, first_answer, others, told, talk, asked, replayed}
use Rattle.rp_machine.specs.State.{State}
use Rattle.window_merge.proofs.Logs.{get-append, get-take}

-- ---- another answer in longer lists

behind_one : (entry : Entry) (xs ys : List Entry) (p : ℕ) → OtherAnswerAt xs ys p → OtherAnswerAt (entry ∷ xs) (entry ∷ ys) (suc p)
behind_one entry xs ys p h = grind arith

behind : (before xs ys : List Entry) (p : ℕ) → OtherAnswerAt xs ys p → (q : ℕ) × OtherAnswerAt (before ++ xs) (before ++ ys) q
behind [] xs ys p h = (p, h)
behind (entry ∷ before) xs ys p h =
    let rest = behind before xs ys p h in (suc rest.0, behind_one entry (before ++ xs) (before ++ ys) rest.0 rest.1)

-- ---- one cycle

record TellsSame {B : Type 0} (f : Ask → ℕ) (log : List Entry) (tree : Asking B) : Type 0 where
  begun : told log tree ≡ answered f tree
  talked : talk log tree ≡ asked f tree

abbrev Tells : {B : Type 0} → (Ask → ℕ) → List Entry → Asking B → Type 0
Tells f log tree = TellsSame f log tree ⊎ ((p : ℕ) × OtherAnswerAt (talk log tree) (asked f tree) p)

tells_more : {B : Type 0} (f : Ask → ℕ) (log : List Entry) (ask : Ask) (next : ℕ → Asking B) → first_answer log ≡ f ask
    → Tells f (others log) (next (first_answer log)) → Tells f log (Question ask next)
tells_more {B} f log ask next e (inl rest) = grind arith
tells_more {B} f log ask next e (inr rest) = inr (
  suc rest.0,
  subst (λ (x : ℕ). OtherAnswerAt ((ask, first_answer log) ∷ talk (others log) (next (first_answer log))) ((ask, x) ∷ asked f (next x)) (suc rest.0)) e
      (behind_one (ask, first_answer log) (talk (others log) (next (first_answer log))) (asked f (next (first_answer log))) rest.0 rest.1),
)

tells : {B : Type 0} (f : Ask → ℕ) (log : List Entry) (tree : Asking B) → Tells f log tree
tells f log (Ready begun) = inl (record { begun = refl; talked = refl })
tells f log (Question ask next) = elim (eqb_tells (first_answer log) (f ask)) [
  | inl is ↦ tells_more f log ask next is.1 (tells f (others log) (next (first_answer log)))
  | inr is ↦ inr (0, record { same_before = refl; question = ask; told = first_answer log; answer = f ask; in_log = refl; in_run = refl; other = is.1 })
]

-- ---- all cycles

-- the replay of the report stands where the run alone stands
record IsLevel {S B : Type 0} (m : Meaning (Unit {0}) S B) (lane : ℕ) (s : State) (report : Report S) (k : ℕ) : Type 0 where
  same_state : (replay_of m tt report k).state ≡ (alone m (around lane) tt report.before report.start s k).state
  same_talk : (replay_of m tt report k).talk ≡ (alone m (around lane) tt report.before report.start s k).talk

-- or some answer is another one
abbrev Stands : {S B : Type 0} → Meaning (Unit {0}) S B → ℕ → State → Report S → ℕ → Type 0
Stands m lane s report k =
    IsLevel m lane s report k ⊎ ((p : ℕ) × OtherAnswerAt (replay_of m tt report k).talk (alone m (around lane) tt report.before report.start s k).talk p)

level_next : {S B : Type 0} (m : Meaning (Unit {0}) S B) (lane : ℕ) (s : State) (report : Report S) (k : ℕ) → IsLevel m lane s report k
    → Tells (answer_of lane (alone m (around lane) tt report.before report.start s k).around) (replay_of m tt report k).rest (m.asks tt (replay_of m tt report k).state (report.start + k))
    → Stands m lane s report (suc k)
unfolding replayed alone
level_next {S} {B} m lane s report k h (inl same) = grind arith
level_next {S} {B} m lane s report k h (inr other) =
    let r = replay_of m tt report k in
    let a = alone m (around lane) tt report.before report.start s k in
    let f = answer_of lane a.around in
    let cycle = report.start + k in
    let here = behind r.talk (talk r.rest (m.asks tt r.state cycle)) (asked f (m.asks tt r.state cycle)) other.0 other.1 in
    let there = subst (λ (x : S). OtherAnswerAt (r.talk ++ talk r.rest (m.asks tt r.state cycle)) (r.talk ++ asked f (m.asks tt x cycle)) here.0) h.same_state here.1 in
    inr (here.0, subst (λ (es : List Entry). OtherAnswerAt (r.talk ++ talk r.rest (m.asks tt r.state cycle)) (es ++ asked f (m.asks tt a.state cycle)) here.0) h.same_talk there)

stands_next : {S B : Type 0} (m : Meaning (Unit {0}) S B) (lane : ℕ) (s : State) (report : Report S) (k : ℕ) → Stands m lane s report k → Stands m lane s report (suc k)
unfolding replayed alone
stands_next m lane s report k (inl h) = level_next m lane s report k h (tells _ _ _)
stands_next m lane s report k (inr h) = search (arith, slice_get_within, take-append-le, get-append)

stands : {S B : Type 0} (m : Meaning (Unit {0}) S B) (lane : ℕ) (s : State) (report : Report S) (k : ℕ) → Stands m lane s report k
unfolding replayed alone
stands m lane s report zero = inl (record { same_state = refl; same_talk = refl })
stands m lane s report (suc k) = stands_next m lane s report k (stands m lane s report k)

-- ---- the first entry that differs

pub other_answer : {S B : Type 0} (m : Meaning (Unit {0}) S B) (lane : ℕ) (before : S) (s : State) (report : Report S) (n : ℕ) → IsTrue m tt report
    → report.start ≡ s.cycle → report.before ≡ before → DifferAt report.log (talk_alone m lane before s report.length) n
    → OtherAnswerAt report.log (talk_alone m lane before s report.length) n
other_answer {S} m lane before s report n h e_start e_before d = search (arith, stands, cases_lt, get-take)

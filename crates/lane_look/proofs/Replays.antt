-- Replays of a log, and of a longer one.
use Rattle.std.proofs.Common.{◌≡◌, ℕ, zero, suc, ◌+◌, List, [], ◌++◌, refl, ap, ◌∙◌, append_assoc, add-one, length, length-append, map, Option, Some, None, ◌-◌, ◌≤◌, arith}
use Rattle.lane_look.specs.Asking.{Asking, Runs}
use Rattle.lane_look.specs.declared.marks.Mark.{Mark}
use Rattle.std.specs.Option.{option_to_list}
use Rattle.lane_look.specs.Replay.{Meaning, turn_alone, Entry, Replay, talk, replay_by, replay_cycle, replayed, after_begun, marks_with}
use Rattle.lane_look.proofs.Trees.{told_again, left_again, talk_again, ByLog, runs_told, left_shorter}

-- a replay that has these entries left
abbrev pub with_rest : {S : Type 0} → List Entry → Replay S → Replay S
with_rest more r = record r { rest = more }

-- one cycle more, by the log that a cycle made, and more entries
again_by : {E S B : Type 0} (m : Meaning E S B) (env : E) (tree : Asking B) (log more : List Entry) (r : Replay S) → r.rest ≡ log → replay_by m env tree (with_rest (talk log tree ++ more) r) ≡ with_rest more (replay_by m env tree r)
again_by m env tree log more r h = rw (h, told_again log more tree, left_again log more tree, talk_again log more tree) refl

-- the entries that a replay's cycles used are enough for these cycles
pub replayed_again : {E S B : Type 0} (m : Meaning E S B) (env : E) (before : S) (start : ℕ) (log : List Entry) (n : ℕ) (more : List Entry) → replayed m env before start ((replayed m env before start log n).talk ++ more) n ≡ with_rest more (replayed m env before start log n)
unfolding replayed
replayed_again m env before start log zero more = refl
replayed_again m env before start log (suc n) more =
    let r = replayed m env before start log n in
    let tree = m.asks env r.state (start + n) in
    let here : replayed m env before start ((r.talk ++ talk r.rest tree) ++ more) n ≡ with_rest (talk r.rest tree ++ more) r =
    rw (append_assoc r.talk (talk r.rest tree) more) (replayed_again m env before start log n (talk r.rest tree ++ more)) in
    ap (replay_cycle m env (start + n)) here ∙ again_by m env tree r.rest more r refl

-- a cycle leaves at most one mark
one_mark : (o : Option Mark) → length (option_to_list o) ≤ 1
one_mark None = omega arith
one_mark (Some mark) = omega arith

pub marks_grow : {E S B : Type 0} (m : Meaning E S B) (env : E) (state : S) (begun : B) (marks marks' : List Mark) (n : ℕ) → marks' ≡ marks_with m env state begun marks → length marks ≤ n → length marks' ≤ n + 1
marks_grow m env state begun marks marks' n e few =
    let one = one_mark (m.marked env state begun (map turn_alone (m.wanted begun))) in
    rw (e, length-append) (omega arith)

-- ---- a loop that replays

-- a lane, what is left of the log, and the marks, after so many cycles
pub record Stands {E S B : Type 0} (m : Meaning E S B) (env : E) (before : S) (start : ℕ) (log : List Entry) (n : ℕ) (state : S) (rest : List Entry) (marks : List Mark) : Type 0 where
  pub is_state : state ≡ (replayed m env before start log n).state
  pub is_rest : rest ≡ (replayed m env before start log n).rest
  pub is_marks : marks ≡ (replayed m env before start log n).marks
  pub few : length marks ≤ n

pub stands_first : {E S B : Type 0} (m : Meaning E S B) (env : E) (before : S) (start : ℕ) (log rest : List Entry) (marks : List Mark) → rest ≡ log → marks ≡ [] → Stands m env before start log 0 before rest marks
unfolding replayed
stands_first m env before start log rest marks r e = record { is_state = refl; is_rest = r; is_marks = e; few = rw e (omega arith) }

pub stands_next : {E S B : Type 0} (m : Meaning E S B) (env : E) (before : S) (start : ℕ) (log : List Entry) (n : ℕ) (state : S) (rest : List Entry) (marks : List Mark) (begun : B) (state' : S) (rest' : List Entry) (marks' : List Mark) (cycle : ℕ) → Stands m env before start log n state rest marks → Runs ByLog rest (m.asks env state cycle) begun rest' → cycle ≡ start + n → state' ≡ after_begun m env state begun → marks' ≡ marks_with m env state begun marks → Stands m env before start log (n + 1) state' rest' marks'
unfolding replayed
stands_next m env before start log n state rest marks begun state' rest' marks' cycle s runs e_cycle e_state e_marks =
    let told_here = runs_told rest (m.asks env state cycle) begun rest' runs in
    rw add-one (record {
      is_state = rw (e_state, told_here.0, e_cycle, s.is_state, s.is_rest) refl;
      is_rest = rw (told_here.1, e_cycle, s.is_state, s.is_rest) refl;
      is_marks = rw (e_marks, told_here.0, e_cycle, s.is_state, s.is_rest, s.is_marks) refl;
      few = rw (← add-one) (marks_grow m env state begun marks marks' n e_marks s.few);
    })

pub runs_shorter : {B : Type 0} (log : List Entry) (tree : Asking B) (result : B) (new : List Entry) → Runs ByLog log tree result new → length new ≤ length log
runs_shorter log tree result new runs = rw ((runs_told log tree result new runs).1) (left_shorter log tree)

pub stands_used : {E S B : Type 0} (m : Meaning E S B) (env : E) (before : S) (start : ℕ) (log : List Entry) (k : ℕ) (state : S) (rest : List Entry) (marks : List Mark) (n all some : ℕ) → Stands m env before start log k state rest marks → k ≡ n → all ≡ length log → some ≡ length rest → some ≤ all → length log ≡ all - some + length (replayed m env before start log n).rest
stands_used m env before start log k state rest marks n all some s same e_all e_some le =
    let left : length rest ≡ length (replayed m env before start log n).rest = rw (← same) (ap length s.is_rest) in
    omega arith

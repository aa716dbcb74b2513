-- A look that answers by what is around the lane, and writes down what it answered.
use Rattle.std.proofs.Common.{◌≡◌, ℕ, zero, suc, ◌+◌, ◌<◌, ◌≤◌, Bool, true, not, nat_lt, List, [], ◌∷◌, ◌++◌, length, length-append, take, refl, ap, sym, ◌∙◌, append_assoc, append-nil, arith, subst}
use Rattle.std.proofs.Math.Seq.{take-append_seam}
use Rattle.std.proofs.lemmas.Bool.Decides.{nat_tests}
use Rattle.lane_look.specs.Asking.{Asking, Runs, answered, AsksAtMost}
use Rattle.lane_look.specs.Asking.Asking.{Ready, Question}
use Rattle.lane_look.specs.declared.lane.Ask.{Ask}
use Rattle.lane_look.specs.declared.alone.Recorder.{Recorder}
use Rattle.lane_look.specs.declared.lane.Want.{Want}
use Rattle.lane_look.specs.declared.marks.Mark.{Mark}
use Rattle.lane_look.specs.Replay.{Meaning, Entry, asked, after_begun, marks_with}
use Rattle.lane_look.specs.Alone.{Surroundings, recorded, standing, all_stored, begun_alone, alone_cycle, ends_wants, ends_now}

abbrev pub ByAround : {W : Type 0} → (W → Ask → ℕ) → Recorder W → Ask → ℕ → Recorder W → Type 0
ByAround f old ask answer new = (answer ≡ f old.around ask) × (new.around ≡ old.around) × (new.log.now ≡ recorded old.log.now (ask, answer)) × (new.log.ghost_name ≡ old.log.ghost_name)

recorded_fits : (log : List Entry) (entry : Entry) → length log < 2048 → recorded log entry ≡ log ++ entry ∷ []
recorded_fits log entry lt =
    let here : nat_lt (length log) 2048 ≡ true = grind (arith, nat_tests) in
    rw here refl

-- what was begun is what the surroundings answer, and the log has these answers
pub record Recorded {W B : Type 0} (f : W → Ask → ℕ) (old : Recorder W) (tree : Asking B) (result : B) (new : Recorder W) : Type 0 where
  pub begun : result ≡ answered (f old.around) tree
  pub around : new.around ≡ old.around
  pub log : new.log.now ≡ old.log.now ++ asked (f old.around) tree
  pub same : new.log.ghost_name ≡ old.log.ghost_name

-- a bound on the questions is one by any greater number
pub asks_more : {B : Type 0} (tree : Asking B) (few many : ℕ) → few ≤ many → AsksAtMost few tree → AsksAtMost many tree
asks_more (Ready begun) few many le h = tt
asks_more (Question ask next) zero many le h = absurd h
asks_more (Question ask next) (suc few) zero le h = absurd (omega arith)
asks_more (Question ask next) (suc few) (suc many) le h = λ x. asks_more (next x) few many (omega arith) (h x)

pub runs_recorded : {W B : Type 0} (f : W → Ask → ℕ) (old : Recorder W) (tree : Asking B) (result : B) (new : Recorder W) (depth : ℕ) → Runs (ByAround f) old tree result new → AsksAtMost depth tree → length old.log.now + depth ≤ 2048 → Recorded f old tree result new
runs_recorded {W} f old (Ready begun) result new depth r shallow room =
    record {
      begun = r.1;
      around = ap (λ (k : Recorder W). k.around) r.0;
      log = ap (λ (k : Recorder W). k.log.now) r.0 ∙ sym (append-nil old.log.now);
      same = ap (λ (k : Recorder W). k.log.ghost_name) r.0;
    }
runs_recorded f old (Question ask next) result new zero r shallow room = absurd shallow
runs_recorded {W} {B} f old (Question ask next) result new (suc depth) r shallow room =
    let x = f old.around ask in
    let e_x : r.0 ≡ x = r.2.0 in
    let mid : Recorder W = r.1 in
    let e_around : mid.around ≡ old.around = r.2.1 in
    let e_log : mid.log.now ≡ old.log.now ++ (ask, x) ∷ [] =
    r.2.2 ∙ recorded_fits old.log.now (ask, r.0) (omega arith) ∙ ap (λ (y : ℕ). old.log.now ++ (ask, y) ∷ []) e_x in
    let there : Runs (ByAround f) mid (next x) result new = subst (λ (y : ℕ). Runs (ByAround f) mid (next y) result new) e_x r.3 in
    let size : length mid.log.now ≡ length old.log.now + 1 = ap length e_log ∙ length-append old.log.now ((ask, x) ∷ []) in
    let rest = runs_recorded f mid (next x) result new depth there (shallow x) (omega (arith, size, room)) in
    record {
      begun = rest.begun ∙ ap (λ (a : W). answered (f a) (next x)) e_around;
      around = rest.around ∙ e_around;
      log = rest.log ∙ ap (λ (l : List Entry). l ++ asked (f mid.around) (next x)) e_log
          ∙ ap (λ (a : W). (old.log.now ++ (ask, x) ∷ []) ++ asked (f a) (next x)) e_around
          ∙ append_assoc old.log.now ((ask, x) ∷ []) (asked (f old.around) (next x));
      same = rest.same ∙ r.2.3;
    }

-- the log as it was before the cycle
pub cut_back : (log more : List Entry) (kept : ℕ) → kept ≡ length log → take kept (log ++ more) ≡ log
cut_back log more kept e = rw e (take-append_seam log more)

pub asked_few : {B : Type 0} (f : Ask → ℕ) (tree : Asking B) (depth : ℕ) → AsksAtMost depth tree → length (asked f tree) ≤ depth
asked_few f (Ready begun) depth shallow = omega arith
asked_few f (Question ask next) zero shallow = absurd shallow
asked_few f (Question ask next) (suc depth) shallow =
    let rest = asked_few f (next (f ask)) depth (shallow (f ask)) in omega arith

-- ---- a cycle of the run alone

-- whether the run ends before the cycle
pub goes_on : {E S B W : Type 0} (m : Meaning E S B) (a : Surroundings W) (env : E) (cycle : ℕ) (state : S) (around : W) (begun : B) (wants : List Want) (ended value : Bool) → begun ≡ begun_alone m a env cycle state around → wants ≡ m.wanted begun → ended ≡ ends_wants wants → ended ≡ value → not value ≡ not (ends_now m a env cycle state around)
goes_on m a env cycle state around begun wants ended value e_begun e_wants e_ended e_value =
    ap not (sym e_value ∙ e_ended ∙ ap ends_wants (e_wants ∙ ap m.wanted e_begun))

-- what the cycle leaves
pub stepped : {E S B W : Type 0} (m : Meaning E S B) (a : Surroundings W) (env : E) (cycle : ℕ) (state : S) (old : Recorder W) (marks : List Mark) (begun : B) (look : Recorder W) (wants : List Want) (state' : S) (around' : W) (log' : List Entry) (marks' : List Mark) → Recorded a.answer old (m.asks env state cycle) begun look → wants ≡ m.wanted begun → state' ≡ after_begun m env state begun → marks' ≡ marks_with m env state begun marks → around' ≡ all_stored a look.around wants → log' ≡ look.log.now → standing state' around' log' marks' ≡ alone_cycle m a env cycle (standing state old.around old.log.now marks)
stepped m a env cycle state old marks begun look wants state' around' log' marks' r e_wants e_state e_marks e_around e_log =
    rw (e_state, e_marks, e_around, e_wants, e_log, r.begun, r.around, r.log) refl

-- at most 8 entries are added
pub few_more : {W B : Type 0} (f : W → Ask → ℕ) (old : Recorder W) (tree : Asking B) (begun : B) (look : Recorder W) → Recorded f old tree begun look → AsksAtMost 8 tree → length look.log.now ≤ length old.log.now + 8
few_more f old tree begun look r shallow =
    let few = asked_few (f old.around) tree 8 shallow in
    rw (r.log, length-append) (omega arith)

-- the log is cut back
pub unchanged : {S W B : Type 0} (f : W → Ask → ℕ) (old : Recorder W) (tree : Asking B) (begun : B) (look : Recorder W) (state : S) (around' : W) (kept : ℕ) (log' : List Entry) (marks : List Mark) → Recorded f old tree begun look → around' ≡ look.around → kept ≡ length old.log.now → log' ≡ take kept look.log.now → standing state around' log' marks ≡ standing state old.around old.log.now marks
unchanged f old tree begun look state around' kept log' marks r e_around e_kept e_log =
    rw (e_log, e_around, r.around, r.log, cut_back old.log.now (asked (f old.around) tree) kept e_kept) refl

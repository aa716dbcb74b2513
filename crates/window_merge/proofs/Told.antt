-- One lane in cycle k of a window: what the log of its run alone tells it.
use Rattle.std.proofs.Common.{◌≡◌, ℕ, zero, suc, ◌+◌, ◌-◌, ◌<◌, List, ◌++◌, refl, ap, sym, ◌∙◌, append_assoc, append-nil, add-one, arith}
use Rattle.window_merge.proofs.Shared.{Surroundings, alone, answered, append_cancel_left, asked_in, begun_alone, wanted_in}
use Rattle.lane_look.specs.Replay.{Meaning, Entry, told, left, talk, asked, after_begun}
use Rattle.lane_look.proofs.Trees.{told_asked, left_asked, talk_asked}

-- ---- one lane in cycle k of its run alone

-- the talk of more cycles begins with that of fewer
alone_more : {E S B W : Type 0} (m : Meaning E S B) (a : Surroundings W) (env : E) (before : S) (start : ℕ) (first : W) (n more all : ℕ) → n + more ≡ all → (rest : List Entry) × ((alone m a env before start first all).talk ≡ (alone m a env before start first n).talk ++ rest)
unfolding alone
alone_more m a env before start first n zero all e = search (arith, append-nil)
alone_more m a env before start first n (suc more) zero e = absurd (omega arith)
alone_more m a env before start first n (suc more) (suc all) e =
    let so_far = alone_more m a env before start first n more all (omega arith) in
    let r = alone m a env before start first all in
    let here = asked (a.answer r.around) (m.asks env r.state (start + all)) in
    (so_far.0 ++ here, ap (λ (es : List Entry). es ++ here) so_far.1 ∙ append_assoc (alone m a env before start first n).talk so_far.0 here)

-- the talk of one cycle more
alone_talk : {E S B W : Type 0} (m : Meaning E S B) (a : Surroundings W) (env : E) (before : S) (start : ℕ) (first : W) (k : ℕ) → (alone m a env before start first (suc k)).talk ≡ (alone m a env before start first k).talk ++ asked_in m a env before start first k
unfolding alone asked_in
alone_talk m a env before start first k = refl

alone_state : {E S B W : Type 0} (m : Meaning E S B) (a : Surroundings W) (env : E) (before : S) (start : ℕ) (first : W) (k : ℕ) → (alone m a env before start first (suc k)).state ≡ after_begun m env (alone m a env before start first k).state (begun_alone m a env (start + k) (alone m a env before start first k).state (alone m a env before start first k).around)
unfolding alone
alone_state m a env before start first k = refl

-- what the log of the run alone tells the lane that stands in cycle k
pub record Told {E S B W : Type 0} (m : Meaning E S B) (a : Surroundings W) (env : E) (before : S) (start : ℕ) (first : W) (n k : ℕ) (state : S) (cycle : ℕ) (rest : List Entry) : Type 0 where
  pub begun : told rest (m.asks env state cycle) ≡ answered (a.answer (alone m a env before start first k).around) (m.asks env state cycle)
  pub wanted_here : m.wanted (told rest (m.asks env state cycle)) ≡ wanted_in m a env before start first k
  pub talk_here : talk rest (m.asks env state cycle) ≡ asked_in m a env before start first k
  pub asked_here : asked (a.answer (alone m a env before start first k).around) (m.asks env state cycle) ≡ asked_in m a env before start first k
  pub left_over : (alone m a env before start first (k + 1)).talk ++ left rest (m.asks env state cycle) ≡ (alone m a env before start first n).talk
  pub state_after : after_begun m env state (told rest (m.asks env state cycle)) ≡ (alone m a env before start first (k + 1)).state

-- the same, where the lane's state and cycle are written as the run alone has them
told_alone : {E S B W : Type 0} (m : Meaning E S B) (a : Surroundings W) (env : E) (before : S) (start : ℕ) (first : W) (n k : ℕ) (rest : List Entry) → (alone m a env before start first k).talk ++ rest ≡ (alone m a env before start first n).talk → k < n → Told m a env before start first n k (alone m a env before start first k).state (start + k) rest
unfolding asked_in wanted_in
told_alone m a env before start first n k rest e lt =
    let r = alone m a env before start first k in
    let f = a.answer r.around in
    let tree = m.asks env r.state (start + k) in
    let more = alone_more m a env before start first (suc k) (n - suc k) n (omega arith) in
    let split : r.talk ++ rest ≡ r.talk ++ (asked f tree ++ more.0) =
    e ∙ more.1 ∙ ap (λ (es : List Entry). es ++ more.0) (alone_talk m a env before start first k) ∙ append_assoc r.talk (asked f tree) more.0 in
    let parts : rest ≡ asked f tree ++ more.0 = append_cancel_left r.talk rest (asked f tree ++ more.0) split in
    let begun : told rest tree ≡ answered f tree = ap (λ (es : List Entry). told es tree) parts ∙ told_asked f more.0 tree in
    record {
      begun = begun;
      wanted_here = ap m.wanted begun;
      talk_here = ap (λ (es : List Entry). talk es tree) parts ∙ talk_asked f more.0 tree;
      asked_here = refl;
      left_over = rw add-one (ap (λ (es : List Entry). (alone m a env before start first (suc k)).talk ++ left es tree) parts ∙ ap (λ (es : List Entry). (alone m a env before start first (suc k)).talk ++ es) (left_asked f more.0 tree) ∙ sym more.1);
      state_after = rw add-one (ap (after_begun m env r.state) begun ∙ sym (alone_state m a env before start first k));
    }

pub told_at : {E S B W : Type 0} (m : Meaning E S B) (a : Surroundings W) (env : E) (before : S) (start : ℕ) (first : W) (n k : ℕ) (state : S) (cycle : ℕ) (rest : List Entry) → (alone m a env before start first k).talk ++ rest ≡ (alone m a env before start first n).talk → k < n → state ≡ (alone m a env before start first k).state → cycle ≡ start + k → Told m a env before start first n k state cycle rest
told_at m a env before start first n k state cycle rest e lt e_state e_cycle =
    rw (e_state, e_cycle) (told_alone m a env before start first n k rest e lt)

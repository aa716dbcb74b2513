-- The same lane in two environments: what is true of its replays and runs in the one is true in the other.
use Rattle.window_merge.proofs.Shared.{Alone, Asking, Copies, IsTrue, List, RanIn, Report, ap, copied, refl, suc, zero, ℕ, ◌∙◌, ◌≡◌, arith}
use Rattle.lane_look.specs.Replay.{Meaning, Entry, Replay, replay_by, replayed}
use Rattle.window_merge.proofs.Copying.{Copied, SameLane, alone_same, length_same}

by_same : {E F S B : Type 0} (m : Meaning E S B) (env : E) (n : Meaning F S B) (env' : F) → SameLane m env n env' → (tree : Asking B) (r : Replay S) → replay_by m env tree r ≡ replay_by n env' tree r
by_same m env n env' same tree r = grind arith

replayed_same : {E F S B : Type 0} (m : Meaning E S B) (env : E) (n : Meaning F S B) (env' : F) → SameLane m env n env' → (before : S) (start : ℕ) (log : List Entry) (k : ℕ) → replayed m env before start log k ≡ replayed n env' before start log k
unfolding replayed
replayed_same m env n env' same before start log zero = refl
replayed_same {E} {F} {S} {B} m env n env' same before start log (suc k) = search (arith, by_same, (replayed_same m env n env' same before start log k))

pub true_same : {E F S B : Type 0} (m : Meaning E S B) (env : E) (n : Meaning F S B) (env' : F) → SameLane m env n env' → (report : Report S) → IsTrue m env report → IsTrue n env' report
true_same {E} {F} {S} m env n env' same report h = search (arith, replayed_same)

itself : {E S B : Type 0} (m : Meaning E S B) (env : E) → Copied copied copied (λ (copies : Copies). copies) m env
itself m env = record { answers = λ w s cycle. record { begun = refl; talk = refl }; stores = λ w v. refl }

-- a run by copies of what is around a lane is that of the lane in the other environment
pub ran_same : {E F S B : Type 0} (m : Meaning E S B) (env : E) (n : Meaning F S B) (env' : F) (before : S) (start : ℕ) (copies : Copies) (bound : ℕ) (report : Report S)
    → RanIn m env before start copies bound report → SameLane m env n env' → RanIn n env' before start copies bound report
ran_same {E} {F} {S} m env n env' before start copies bound report h same = record {
  same_start = h.same_start;
  same_lane = h.same_lane;
  same_length = h.same_length ∙ length_same m env n env' copied copied (λ (c : Copies). c) same (itself n env') before start copies bound;
  same_log = h.same_log ∙ ap (λ (r : Alone S Copies). r.talk) (alone_same m env n env' copied copied (λ (c : Copies). c) same (itself n env') before start copies report.length);
  replays = true_same m env n env' same report h.replays;
}

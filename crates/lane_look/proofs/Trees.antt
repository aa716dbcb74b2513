-- Trees of questions, walked by a log and by a function.
use Rattle.std.proofs.Common.{◌≡◌, ℕ, List, [], ◌∷◌, ◌++◌, refl, ap, subst, length, ◌≤◌, arith}
use Rattle.lane_look.specs.Asking.{Asking, Runs, answered}
use Rattle.lane_look.specs.Asking.Asking.{Ready, Question}
use Rattle.lane_look.specs.declared.lane.Ask.{Ask}
use Rattle.lane_look.specs.Replay.{Entry, first_answer, others, told, left, talk, asked}

-- ---- the answers that were given answer again, whatever entries follow

pub told_again : {B : Type 0} (log more : List Entry) (tree : Asking B) → told (talk log tree ++ more) tree ≡ told log tree
told_again log more (Ready begun) = refl
told_again log more (Question ask next) = told_again (others log) more (next (first_answer log))

pub left_again : {B : Type 0} (log more : List Entry) (tree : Asking B) → left (talk log tree ++ more) tree ≡ more
left_again log more (Ready begun) = refl
left_again log more (Question ask next) = left_again (others log) more (next (first_answer log))

pub talk_again : {B : Type 0} (log more : List Entry) (tree : Asking B) → talk (talk log tree ++ more) tree ≡ talk log tree
talk_again log more (Ready begun) = refl
talk_again log more (Question ask next) = ap (λ (es : List Entry). (ask, first_answer log) ∷ es) (talk_again (others log) more (next (first_answer log)))

-- ---- a log of what a function answers

pub told_asked : {B : Type 0} (f : Ask → ℕ) (more : List Entry) (tree : Asking B) → told (asked f tree ++ more) tree ≡ answered f tree
told_asked f more (Ready begun) = refl
told_asked f more (Question ask next) = told_asked f more (next (f ask))

pub left_asked : {B : Type 0} (f : Ask → ℕ) (more : List Entry) (tree : Asking B) → left (asked f tree ++ more) tree ≡ more
left_asked f more (Ready begun) = refl
left_asked f more (Question ask next) = left_asked f more (next (f ask))

pub talk_asked : {B : Type 0} (f : Ask → ℕ) (more : List Entry) (tree : Asking B) → talk (asked f tree ++ more) tree ≡ asked f tree
talk_asked f more (Ready begun) = refl
talk_asked f more (Question ask next) = ap (λ (es : List Entry). (ask, f ask) ∷ es) (talk_asked f more (next (f ask)))

-- ---- a look that answers by the log

abbrev pub ByLog : List Entry → Ask → ℕ → List Entry → Type 0
ByLog old ask answer new = (answer ≡ first_answer old) × (new ≡ others old)

pub runs_told : {B : Type 0} (log : List Entry) (tree : Asking B) (result : B) (new : List Entry) → Runs ByLog log tree result new → (result ≡ told log tree) × (new ≡ left log tree)
runs_told log (Ready begun) result new r = (r.1, r.0)
runs_told {B} log (Question ask next) result new r =
    let here : Runs ByLog (others log) (next r.0) result new = subst (λ (k : List Entry). Runs ByLog k (next r.0) result new) r.2.1 r.3 in
    let there : Runs ByLog (others log) (next (first_answer log)) result new = subst (λ (x : ℕ). Runs ByLog (others log) (next x) result new) r.2.0 here in
    runs_told (others log) (next (first_answer log)) result new there

others_shorter : (log : List Entry) → length (others log) ≤ length log
others_shorter [] = omega arith
others_shorter (entry ∷ log) = omega arith

pub left_shorter : {B : Type 0} (log : List Entry) (tree : Asking B) → length (left log tree) ≤ length log
left_shorter log (Ready begun) = omega arith
left_shorter log (Question ask next) =
    let one = others_shorter log in
    let rest = left_shorter (others log) (next (first_answer log)) in
    omega arith

-- A look that answers by a log, and compares its answers with the machine's.
use Rattle.window_merge.proofs.Shared.{Ask, Bool, Question, Ready, Want, [], and-true, answer_of, ap, asked_of, clash, differs, false, nat_eq, not, share_port, subst, ℕ, ◌&&◌, ◌||◌, ◌∙◌, ◌∷◌, ◌≡◌, arith}
use Rattle.lane_look.specs.Asking.{Asking, Runs}
use Rattle.lane_look.specs.declared.lane.Want.TheVariants as want
use Rattle.lane_look.specs.Replay.{first_answer, others, told, left, talk}
use Rattle.window_merge.specs.declared.compare.Comparer.{Comparer}
use Rattle.window_merge.proofs.Agree.{all_same}

-- what was begun by the log, what is left of it, and whether the answers are the same
pub record Both {B : Type 0} (old : Comparer) (tree : Asking B) (result : B) (new : Comparer) : Type 0 where
  pub begun : result ≡ told old.rest tree
  pub left_over : new.rest ≡ left old.rest tree
  pub is_same : new.same ≡ old.same && not (differs (answer_of old.lane old.machine.now) (talk old.rest tree))

abbrev ByBoth : Comparer → Ask → ℕ → Comparer → Type 0
ByBoth old ask answer new = (answer ≡ first_answer old.rest) × (new ≡ record old { rest = others old.rest; same = old.same && nat_eq (answer_of old.lane old.machine.now ask) answer })

pub runs_both : {B : Type 0} (old : Comparer) (tree : Asking B) (result : B) (new : Comparer) → Runs ByBoth old tree result new → Both old tree result new
runs_both old (Ready begun) result new r = search (arith, and-true)
runs_both old (Question ask next) result new r =
    let f = answer_of old.lane old.machine.now in
    let x = first_answer old.rest in
    let mid : Comparer = record old { rest = others old.rest; same = old.same && nat_eq (f ask) x } in
    let e_mid : r.1 ≡ mid = r.2.1 ∙ ap (λ (y : ℕ). record old { rest = others old.rest; same = old.same && nat_eq (f ask) y }) r.2.0 in
    let here : Runs ByBoth mid (next r.0) result new = subst (λ (k : Comparer). Runs ByBoth k (next r.0) result new) e_mid r.3 in
    let there : Runs ByBoth mid (next x) result new = subst (λ (y : ℕ). Runs ByBoth mid (next y) result new) r.2.0 here in
    let rest = runs_both mid (next x) result new there in
    record {
      begun = rest.begun;
      left_over = rest.left_over;
      is_same = rest.is_same ∙ all_same old.same (nat_eq (f ask) x) (differs f (talk (others old.rest) (next x)));
    }

-- ---- four wants among twelve

pub shares_none : (a : Want) → share_port a want.Nothing ≡ false
unfolding asked_of
shares_none a = grind arith

bools : (a b c d e f : Bool) → ((a || (b || (c || false))) || ((d || (e || false)) || ((f || false) || false))) ≡ a || (b || (c || (d || (e || f))))
bools a b c d e f = grind arith

pub clash_four : (c0 c1 r v : Want)
    → clash (c0 ∷ want.Nothing ∷ c1 ∷ want.Nothing ∷ r ∷ v ∷ want.Nothing ∷ want.Nothing ∷ want.Nothing ∷ want.Nothing ∷ want.Nothing ∷ want.Nothing ∷ [])
    ≡ share_port c0 c1 || (share_port c0 r || (share_port c0 v || (share_port c1 r || (share_port c1 v || share_port r v))))
unfolding asked_of
clash_four c0 c1 r v = search (arith, shares_none, bools)

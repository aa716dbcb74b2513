-- Tests of numbers and of two parts; and two functions whose answers do not differ begin the same.
use Rattle.window_merge.proofs.Shared.{Ask, Asking, Bool, Question, Ready, answered, ap, differs, eq-eqb, eqb-true, false, nat_eq, not, not-false, or_parts, refl, true, ℕ, ◌&&◌, ◌||◌, ◌∙◌, ◌≡◌, arith}
use Rattle.lane_look.specs.Replay.{asked}

-- none of six is true
pub six_false : (a b c d f g : Bool) → a || (b || (c || (d || (f || (g || false))))) ≡ false
    → (a ≡ false) × (b ≡ false) × (c ≡ false) × (d ≡ false) × (f ≡ false) × (g ≡ false)
six_false a b c d f g e = search (arith, or_parts)

-- a look's answers so far and the next ones
pub all_same : (a b c : Bool) → (a && b) && not c ≡ a && not (not b || c)
all_same a b c = grind arith

pub itself : (n : ℕ) → nat_eq n n ≡ true
itself n = eq-eqb n n refl

-- two functions whose answers do not differ begin the same
pub agree : {B : Type 0} (f g : Ask → ℕ) (tree : Asking B) → differs f (asked g tree) ≡ false → answered f tree ≡ answered g tree
agree f g (Ready begun) e = refl
agree {B} f g (Question ask next) e =
    let parts = or_parts _ _ e in
    let same : f ask ≡ g ask = eqb-true (f ask) (g ask) (not-false _ parts.0) in
    ap (λ (x : ℕ). answered f (next x)) same ∙ agree f g (next (g ask)) parts.1

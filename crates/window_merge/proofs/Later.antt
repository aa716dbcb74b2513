-- A later cycle of a window: what the lanes begin is what the machine begins, where each answer is the same.
use Rattle.window_merge.proofs.Shared.{Begun, Bool, Notes, Start, ap, begun, begun_from, differs_from, false, goes_by, goes_on, not, not-not, not-true, sym, true, ◌||◌, ◌∙◌, ◌≡◌, arith}
use Rattle.rp_machine.specs.State.{State}
use Rattle.window_merge.proofs.Agree.{agree, six_false}

-- the lanes begin what the machine begins
pub same_begun : (start : Start) (n : Notes) (s : State) → differs_from start n s ≡ false → begun s ≡ begun_from start n s
unfolding begun
same_begun start n s e = search (arith, six_false, agree)

-- so it goes as the start says
pub begun_all : (start : Start) (n : Notes) (s : State) (b : Begun) (same : Bool) → same ≡ not (differs_from start n s) → same ≡ true → b ≡ begun s → b ≡ begun_from start n s
begun_all start n s b same e is_true e_b = e_b ∙ same_begun start n s (not-true (differs_from start n s) (sym e ∙ is_true))

pub goes_all : (start : Start) (n : Notes) (s : State) (b : Begun) (same goes : Bool) → same ≡ not (differs_from start n s) → same ≡ true → b ≡ begun s
    → goes ≡ goes_by b → goes ≡ goes_on start n s
goes_all start n s b same goes e is_true e_b e_goes =
    let there = begun_from start n s in
    let agrees : differs_from start n s ≡ false = not-true (differs_from start n s) (sym e ∙ is_true) in
    e_goes ∙ ap goes_by (begun_all start n s b same e is_true e_b)
    ∙ sym (ap (λ (d : Bool). not (d || not (goes_by there))) agrees ∙ not-not (goes_by there))

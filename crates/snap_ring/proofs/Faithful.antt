-- What is kept is found, and stays.
use Rattle.std.proofs.Common.{◌≡◌, ℕ, ◌-◌, ◌%◌, ◌==◌, Bool, true, false, not, ◌&&◌, if◌then◌else◌, List, ◌∷◌, refl, ap, ◌∙◌, sym, Some}
use Rattle.std.proofs.lemmas.Bool.{eq-eqb, eqb-true, and_parts, not-true, false_from_ne_true, true≢false}
use Rattle.rp_machine.specs.State.{State}
use Rattle.snap_ring.specs.Ring.{Snapshots, is_kept, is_within, is_due, state_at}
use Rattle.snap_ring.specs.Laws.{KeepingIsFaithful}

if_yes : {A : Type 0} (b : Bool) (x y : A) → b ≡ true → (if b then x else y) ≡ x
if_yes true x y h = refl
if_yes false x y h = absurd (true≢false (sym h))

if_no : {A : Type 0} (b : Bool) (x y : A) → b ≡ false → (if b then x else y) ≡ y
if_no true x y h = absurd (true≢false h)
if_no false x y h = refl

not_kept : (spacing origin cycle : ℕ) (kept : List State) → is_due spacing origin kept cycle ≡ true → is_kept cycle kept ≡ false
not_kept spacing origin cycle kept h =
    not-true (is_kept cycle kept)
    (and_parts ((cycle - origin) % spacing == 0) (not (is_kept cycle kept))
    (and_parts (is_within spacing origin cycle) (((cycle - origin) % spacing == 0) && not (is_kept cycle kept)) h).1).1

other_cycle : (n cycle : ℕ) (kept : List State) → is_kept n kept ≡ false → is_kept cycle kept ≡ true → (n == cycle) ≡ false
other_cycle n cycle kept out within =
    false_from_ne_true (n == cycle) (λ same. true≢false (sym within ∙ ap (λ m. is_kept m kept) (sym (eqb-true n cycle same)) ∙ out))

stays : (ring : Snapshots) (s : State) (cycle : ℕ) (b : Bool) → b ≡ is_due ring.spacing ring.origin ring.kept s.cycle → is_kept cycle ring.kept ≡ true →
    state_at cycle (if b then record ring { kept = s ∷ ring.kept } else ring).kept ≡ state_at cycle ring.kept
stays ring s cycle false is within = refl
stays ring s cycle true is within =
    if_no (s.cycle == cycle) (Some s) (state_at cycle ring.kept)
    (other_cycle s.cycle cycle ring.kept (not_kept ring.spacing ring.origin s.cycle ring.kept (sym is)) within)

pub keeping_is_faithful : KeepingIsFaithful
keeping_is_faithful ring s = record {
  mine = λ due.
      ap (λ (r : Snapshots). state_at s.cycle r.kept)
      (if_yes (is_due ring.spacing ring.origin ring.kept s.cycle) (record ring { kept = s ∷ ring.kept }) ring due)
      ∙ if_yes (s.cycle == s.cycle) (Some s) (state_at s.cycle ring.kept) (eq-eqb s.cycle s.cycle refl);
  others = λ cycle within. stays ring s cycle (is_due ring.spacing ring.origin ring.kept s.cycle) refl within;
}

-- A seat exchanges the value of a slot that it holds.
use Rattle.std.proofs.Common.{◌≡◌, ℕ, ◌%◌, List, [], ◌∷◌, true, sym, refl, ap, ◌∙◌, subst, get_or, arith}
use Rattle.std.specs.Prelude.{IsSome}
use mathlib.Core.Bool.{false≢true}
use Rattle.atomic_table.specs.Table.{rest, turned}
use Rattle.turn_board.specs.Tickets.{IsUnfinished}
use Rattle.turn_board.specs.Slots.{job_slot, found_slot, FitsFirst, FitsSecond}
use Rattle.turn_board.specs.Plays.{Sat, Brings}
use Rattle.turn_board.specs.Shown.{found_of, found_in, IsSeat}
use Rattle.turn_board.specs.declared.slot.Slot.{Slot}
use Rattle.turn_board.specs.declared.slot.Slot.TheVariants.{Empty, Job, Found}

-- the number of the first slot in the list
head_of : {J R : Type 0} (slot other : ℕ) (x y : Slot J R) (xs ys : List (ℕ × Slot J R)) → (slot, x) ∷ xs ≡ (other, y) ∷ ys → slot ≡ other
head_of {J} {R} slot other x y xs ys e = ap (λ (l : List (ℕ × Slot J R)). (get_or l 0 (slot, x)).0) e

module _ {J R W : Type 0} (job_fits : W → ℕ → J → Type 0) (found_fits : W → ℕ → R → Type 0) where
  -- the unfinished numbers of a holding seat are of one lane, whose slots it has
  same_lane : (m : Sat J R W) → IsSeat job_fits found_fits m → m.0.worker.holding ≡ true → (x y : ℕ) → IsUnfinished m.0.worker x → IsUnfinished m.0.worker y → x % 6 ≡ y % 6
  same_lane m k holds x y u v = let t = k.carries holds in
      let e : job_slot x ≡ job_slot y = head_of (job_slot x) (job_slot y) t.0 t.0 ((found_slot x, t.1) ∷ []) ((found_slot y, t.1) ∷ []) (sym (t.2 x u).0 ∙ (t.2 y v).0) in omega arith

  pub exchanged_first : (m n : Sat J R W) (slot : ℕ) (old new : Slot J R) → IsSeat job_fits found_fits m → m.0.worker.holding ≡ true → m.1 ≡ (slot, old) ∷ rest m.1 → n ≡ (m.0, (slot, new) ∷ rest m.1)
      → ((y : ℕ) → FitsFirst (job_fits m.0.made_for (y % 6)) (found_fits m.0.made_for (y % 6)) new) → IsSeat job_fits found_fits n
  exchanged_first m n slot old new k holds had e fits = let t = k.carries holds in subst (IsSeat job_fits found_fits) (sym e) record {
    follows = k.follows;
    due = k.due;
    bare = λ no. absurd (false≢true (sym no ∙ holds));
    carries = λ _. (
      new,
      t.1,
      λ y u. let v = t.2 y u in let lit = v.0 in
          let at = head_of slot (job_slot y) old t.0 (rest m.1) ((found_slot y, t.1) ∷ []) (sym had ∙ lit) in ((λ q. (at q, new) ∷ rest (lit q)), fits y, v.2),
    );
  }

  pub exchanged_second : (m a b n : Sat J R W) (slot ticket : ℕ) (old new : Slot J R) → IsSeat job_fits found_fits m → m.0.worker.holding ≡ true → a ≡ (m.0, turned m.1) → a.1 ≡ (slot, old) ∷ rest a.1 → b ≡ (a.0, (slot, new) ∷ rest a.1) → n ≡ (b.0, turned b.1)
      → IsUnfinished m.0.worker ticket → FitsSecond (job_fits m.0.made_for (ticket % 6)) (found_fits m.0.made_for (ticket % 6)) new → IsSeat job_fits found_fits n
  exchanged_second m a b n slot ticket old new k holds ea had eb en own fits = let t = k.carries holds in
      let last : n ≡ (m.0, turned ((slot, new) ∷ rest (turned m.1))) = en ∙ (λ q. ((eb q).0, turned (eb q).1)) ∙ (λ q. ((ea q).0, turned ((slot, new) ∷ rest (ea q).1))) in
      subst (IsSeat job_fits found_fits) (sym last) record {
        follows = k.follows;
        due = k.due;
        bare = λ no. absurd (false≢true (sym no ∙ holds));
        carries = λ _. (
          t.0,
          new,
          λ y u. let v = t.2 y u in let lit = v.0 in
              let at = head_of slot (found_slot y) old t.1 (rest a.1) ((job_slot y, t.0) ∷ []) (sym had ∙ (ap (λ (x : Sat J R W). x.1) ea ∙ ap turned lit)) in (
                (λ q. turned ((at q, new) ∷ rest (turned (lit q)))),
                v.1,
                subst (λ (l : ℕ). FitsSecond (job_fits m.0.made_for l) (found_fits m.0.made_for l) new) (same_lane m k holds ticket y own u) fits,
              ),
        );
      }

  found_there : (x : Slot J R) → IsSome (found_of x) → (r : R) × (x ≡ Found r)
  found_there Empty some = absurd (false≢true some)
  found_there (Job j) some = absurd (false≢true some)
  found_there (Found r) some = (r, refl)

  pub brings : (m : Sat J R W) → IsSeat job_fits found_fits m → m.0.worker.holding ≡ true → IsSome (found_in m.1) → Brings job_fits found_fits m
  brings m k holds some = let t = k.carries holds in let due = k.due holds in
      let f = found_there t.1 (subst (λ x. IsSome (found_in x)) (t.2 due.0 due.1).0 some) in (
        holds,
        t.0,
        f.0,
        λ y u. let v = t.2 y u in (
          v.0 ∙ (λ q. (job_slot y, t.0) ∷ (found_slot y, f.1 q) ∷ []),
          v.1,
          subst (λ (x : Slot J R). FitsSecond (job_fits m.0.made_for (y % 6)) (found_fits m.0.made_for (y % 6)) x) f.1 v.2,
        ),
      )

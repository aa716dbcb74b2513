-- What keeping a state leaves.
use Rattle.std.proofs.Common.{◌≡◌, ◌≤◌, ◌<◌, ℕ, ◌+◌, ◌-◌, ◌/◌, ◌%◌, max, min, Bool, true, false, if◌then◌else◌, List, [], ◌∷◌, length, length-set, take, drop, slice_set, length-drop, refl, ap, ◌∙◌, sym, arith, subst}
use Rattle.std.specs.List.{AllByRecursion}
use Rattle.std.proofs.lemmas.Grind.{drop-set_at}
use Rattle.std.proofs.lemmas.List.{length-map, drop_all}
use Rattle.rp_machine.specs.State.{State}
use Rattle.snap_ring.specs.declared.snapshot.Snapshot.{Snapshot}
use Rattle.snap_ring.specs.Ring.{Snapshots, spacing_of, near_spacing, is_due, kept_with, restarted, WereDue, stored_for, stored_of}
use Rattle.snap_ring.specs.Snapshot.{IsPage, AreStored, AreSound, state_in, states_in}
use Rattle.snap_ring.proofs.Counting.{stored_of-le}
use Rattle.snap_ring.proofs.Finding.{states-later, stored_more}
use Rattle.snap_ring.proofs.Room.{positive, room, at_most_64}

pub spacing_is : (limit : ℕ) → max 4096 (limit / 64 + min 1 (limit % 64)) ≡ spacing_of limit
spacing_is limit = ap (max 4096) (omega arith)

pub near_is : (spacing : ℕ) → max (spacing / 64 + min 1 (spacing % 64)) 1 ≡ near_spacing spacing
near_is spacing = omega arith

pub kept_after : {A : Type 0} (xs : List A) (free : ℕ) (x : A) → 1 ≤ free → free ≤ length xs → drop (free - 1) (slice_set xs (free - 1) x) ≡ x ∷ drop free xs
kept_after xs free x one le = drop-set_at xs (free - 1) (free - 1) x refl (omega arith) ∙ ap (λ n. x ∷ drop n xs) (omega arith)

chosen : {A : Type 0} (b : Bool) (x y : A) → b ≡ true → x ≡ (if b then x else y)
chosen true x y h = refl
chosen false x y h = absurd (cc)

kept_is : (ring : Snapshots) (s : State) → is_due ring.spacing ring.origin ring.kept s.cycle ≡ true → record { spacing = ring.spacing; origin = ring.origin; kept = s ∷ ring.kept } ≡ kept_with s ring
kept_is ring s h = chosen (is_due ring.spacing ring.origin ring.kept s.cycle) (record ring { kept = s ∷ ring.kept }) ring h

-- at most as many pages as there is room for
pub stored-small : (spacing origin free : ℕ) (snapshots : List Snapshot) (pages : List (List ℕ)) → AreSound spacing origin free snapshots pages → length pages ≤ 16896
stored-small spacing origin free snapshots pages a =
    omega (arith, a.count, stored_of-le (states_in pages (drop free snapshots)), at_most_64 spacing origin (states_in pages (drop free snapshots)) a.due)

-- where a state is to be kept, a snapshot is free, and room for its pages
pub record HasRoom (free : ℕ) (pages : List (List ℕ)) : Type 0 where
  pub one_free : 1 ≤ free
  pub low : length pages + 264 ≤ 16896

pub has_room : (spacing origin free : ℕ) (snapshots : List Snapshot) (pages : List (List ℕ)) (s : State) → AreSound spacing origin free snapshots pages →
    is_due spacing origin (states_in pages (drop free snapshots)) s.cycle ≡ true → HasRoom free pages
has_room spacing origin free snapshots pages s a h =
    let few : length (states_in pages (drop free snapshots)) < 64 = room spacing origin (states_in pages (drop free snapshots)) s a.due h in
    let same : length (states_in pages (drop free snapshots)) ≡ length (drop free snapshots) = length-map (drop free snapshots) (state_in pages) in
    record {
      one_free = omega (arith, few, same, length-drop free snapshots, a.long);
      low = omega (arith, few, a.count, stored_of-le (states_in pages (drop free snapshots)));
    }

-- the states after one more snapshot is kept
pub states_after : (spacing origin free : ℕ) (snapshots : List Snapshot) (old new : List (List ℕ)) (s : State) (p : Snapshot) → AreSound spacing origin free snapshots old →
    1 ≤ free → take (length old) new ≡ old → state_in new p ≡ s →
    states_in new (drop (free - 1) (slice_set snapshots (free - 1) p)) ≡ s ∷ states_in old (drop free snapshots)
states_after spacing origin free snapshots old new s p a one stays is =
    ap (states_in new) (kept_after snapshots free p one (omega (arith, a.low, a.long)))
    ∙ ap (λ t. t ∷ states_in new (drop free snapshots)) is
    ∙ ap (λ l. s ∷ l) (states-later old new (drop free snapshots) stays a.stored)

pub sound_after : (spacing origin free : ℕ) (snapshots : List Snapshot) (old new : List (List ℕ)) (s : State) (p : Snapshot) → AreSound spacing origin free snapshots old →
    1 ≤ free → is_due spacing origin (states_in old (drop free snapshots)) s.cycle ≡ true → take (length old) new ≡ old → length old ≤ length new →
    AllByRecursion IsPage new → AreStored (length new) p.numbers → state_in new p ≡ s →
    length new ≡ length old + stored_for s (states_in old (drop free snapshots)) → AreSound spacing origin (free - 1) (slice_set snapshots (free - 1) p) new
sound_after spacing origin free snapshots old new s p a one due stays more whole numbers is count =
    let states = states_after spacing origin free snapshots old new s p a one stays is in
    record {
      small = a.small;
      long = length-set snapshots (free - 1) p ∙ a.long;
      low = omega (arith, a.low);
      whole = whole;
      stored = subst (AllByRecursion (λ (q : Snapshot). AreStored (length new) q.numbers)) (sym (kept_after snapshots free p one (omega (arith, a.low, a.long))))
          (numbers, stored_more (length old) (length new) (drop free snapshots) more a.stored);
      due = subst (WereDue spacing origin) (sym states) (due, a.due);
      count = omega (arith, count, a.count) ∙ ap stored_of (sym states);
    }

pub view_after : (spacing origin free : ℕ) (snapshots : List Snapshot) (old new : List (List ℕ)) (s : State) (p : Snapshot) (now : Snapshots) → AreSound spacing origin free snapshots old →
    record { spacing = spacing; origin = origin; kept = states_in old (drop free snapshots) } ≡ now → 1 ≤ free →
    is_due spacing origin (states_in old (drop free snapshots)) s.cycle ≡ true → take (length old) new ≡ old → state_in new p ≡ s →
    record { spacing = spacing; origin = origin; kept = states_in new (drop (free - 1) (slice_set snapshots (free - 1) p)) } ≡ kept_with s now
view_after spacing origin free snapshots old new s p now a view one due stays is =
    ap (λ k. record { spacing = spacing; origin = origin; kept = k }) (states_after spacing origin free snapshots old new s p a one stays is)
    ∙ kept_is (record { spacing = spacing; origin = origin; kept = states_in old (drop free snapshots) }) s due ∙ ap (kept_with s) view

pub due_of : (spacing origin : ℕ) (kept : List State) (now : Snapshots) (n : ℕ) (s : State) (r : Bool) → record { spacing = spacing; origin = origin; kept = kept } ≡ now → n ≡ s.cycle →
    r ≡ is_due now.spacing now.origin now.kept n → r ≡ true → is_due spacing origin kept s.cycle ≡ true
due_of spacing origin kept now n s r view is answer holds =
    ap (λ (v : Snapshots). is_due v.spacing v.origin v.kept s.cycle) view ∙ ap (λ m. is_due now.spacing now.origin now.kept m) (sym is) ∙ (sym answer ∙ holds)

pub sound_at_start : (spacing origin : ℕ) (snapshots : List Snapshot) → 0 < spacing → spacing ≤ 15625000 → length snapshots ≡ 64 → AreSound spacing origin 64 snapshots []
sound_at_start spacing origin snapshots pos small long =
    let none : drop 64 snapshots ≡ [] = drop_all 64 snapshots (omega (arith, long)) in
    record {
      small = small;
      long = long;
      low = omega arith;
      whole = tt;
      stored = subst (AllByRecursion (λ (q : Snapshot). AreStored 0 q.numbers)) (sym none) tt;
      due = subst (λ l. WereDue spacing origin (states_in [] l)) (sym none) pos;
      count = ap (λ l. stored_of (states_in [] l)) (sym none);
    }

-- ---- another stretch

pub sound_again : (spacing origin other free : ℕ) (snapshots : List Snapshot) (old new : List (List ℕ)) → AreSound spacing origin free snapshots old → new ≡ [] →
    AreSound spacing other 64 snapshots new
sound_again spacing origin other free snapshots old new a none =
    subst (AreSound spacing other 64 snapshots) (sym none)
    (sound_at_start spacing other snapshots (positive spacing origin (states_in old (drop free snapshots)) a.due) a.small a.long)

pub view_again : (spacing origin other free : ℕ) (snapshots : List Snapshot) (old new : List (List ℕ)) (now : Snapshots) → AreSound spacing origin free snapshots old →
    record { spacing = spacing; origin = origin; kept = states_in old (drop free snapshots) } ≡ now →
    record { spacing = spacing; origin = other; kept = states_in new (drop 64 snapshots) } ≡ restarted other now
view_again spacing origin other free snapshots old new now a view =
    ap (λ (l : List Snapshot). record { spacing = spacing; origin = other; kept = states_in new l }) (drop_all 64 snapshots (omega (arith, a.long)))
    ∙ ap (restarted other) view

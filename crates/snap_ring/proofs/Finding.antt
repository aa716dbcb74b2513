-- Snapshots and the states that they keep.
use Rattle.std.proofs.Common.{◌≡◌, ◌≤◌, ℕ, ◌-◌, ◌==◌, Bool, true, false, ◌||◌, if◌then◌else◌, List, [], ◌∷◌, length, take, drop, refl, ap, ◌∙◌, Option, Some, None, IfSome, Bor}
use Rattle.std.specs.Option.{is_some, option_map, option_copied}
use Rattle.std.specs.List.{AllByRecursion}
use Rattle.std.proofs.lemmas.List.{take_rest}
use Rattle.rp_machine.specs.State.{State}
use Rattle.snap_ring.specs.declared.snapshot.Snapshot.{Snapshot}
use Rattle.snap_ring.specs.Ring.{is_kept, state_at, stored_for}
use Rattle.snap_ring.specs.Snapshot.{AreStored, state_in, states_in, snapshot_at, first_numbers, stored_anew}
use Rattle.snap_ring.proofs.Joining.{sram-later, below_more}

kept_by : (b : Bool) (p : Snapshot) (o : Option Snapshot) (k : Bool) → is_some o ≡ k → is_some (if b then Some p else o) ≡ (b || k)
kept_by true p o k h = refl
kept_by false p o k h = h

pub kept_at : (pages : List (List ℕ)) (cycle : ℕ) (ps : List Snapshot) → is_some (snapshot_at cycle ps) ≡ is_kept cycle (states_in pages ps)
kept_at pages cycle [] = refl
kept_at pages cycle (p ∷ ps) =
    kept_by (p.rest.cycle == cycle) p (snapshot_at cycle ps) (is_kept cycle (states_in pages ps)) (kept_at pages cycle ps)

map_if : (b : Bool) (pages : List (List ℕ)) (p : Snapshot) (o : Option Snapshot) (s : Option State) → s ≡ option_map (state_in pages) o →
    (if b then Some (state_in pages p) else s) ≡ option_map (state_in pages) (if b then Some p else o)
map_if true pages p o s h = refl
map_if false pages p o s h = h

pub state_at-in : (pages : List (List ℕ)) (cycle : ℕ) (ps : List Snapshot) → state_at cycle (states_in pages ps) ≡ option_map (state_in pages) (snapshot_at cycle ps)
state_at-in pages cycle [] = refl
state_at-in pages cycle (p ∷ ps) =
    map_if (p.rest.cycle == cycle) pages p (snapshot_at cycle ps) (state_at cycle (states_in pages ps)) (state_at-in pages cycle ps)

some_if : (P : Snapshot → Type 0) (b : Bool) (p : Snapshot) (o : Option Snapshot) → P p → IfSome o P → IfSome (if b then Some p else o) P
some_if P true p o h k = h
some_if P false p o h k = k

pub snapshot_at-has : (P : Snapshot → Type 0) (cycle : ℕ) (ps : List Snapshot) → AllByRecursion P ps → IfSome (snapshot_at cycle ps) P
snapshot_at-has P cycle [] h = tt
snapshot_at-has P cycle (p ∷ ps) h = some_if P (p.rest.cycle == cycle) p (snapshot_at cycle ps) h.0 (snapshot_at-has P cycle ps h.1)

-- ---- more pages are stored

pub states-later : (old new : List (List ℕ)) (ps : List Snapshot) → take (length old) new ≡ old → AllByRecursion (λ p. AreStored (length old) p.numbers) ps →
    states_in new ps ≡ states_in old ps
states-later old new [] is h = refl
states-later old new (p ∷ ps) is h =
    ap (λ sram. record (state_in new p) { sram = sram } ∷ states_in new ps) (sram-later old new p.numbers is h.0.below)
    ∙ ap (λ l. state_in old p ∷ l) (states-later old new ps is h.1)

pub stored_more : (n m : ℕ) (ps : List Snapshot) → n ≤ m → AllByRecursion (λ p. AreStored n p.numbers) ps → AllByRecursion (λ p. AreStored m p.numbers) ps
stored_more n m [] le h = tt
stored_more n m (p ∷ ps) le h =
    (record { long = h.0.long; below = below_more n m p.numbers le h.0.below }, stored_more n m ps le h.1)

pub anew_is : (pages : List (List ℕ)) (ps : List Snapshot) (s : State) → stored_anew 264 pages (first_numbers ps) s.sram ≡ stored_for s (states_in pages ps)
anew_is pages [] s = refl
anew_is pages (p ∷ ps) s = refl

pub copied_some : {T : Type 0} (o : Option (Bor T)) → is_some o ≡ is_some (option_copied o)
copied_some None = refl
copied_some (Some x) = refl

-- the slice from an index on
pub slice_from : {A : Type 0} (n : ℕ) (xs ys : List A) → xs ≡ ys → take (length xs - n) (drop n xs) ≡ drop n ys
slice_from n xs ys is = take_rest xs n ∙ ap (drop n) is

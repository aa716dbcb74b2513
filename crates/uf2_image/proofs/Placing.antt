-- Parts that are placed in order of address.
use Rattle.std.proofs.Common.{◌≡◌, ◌≢◌, ◌≤◌, ◌<◌, inl, inr, ℕ, zero, suc, ◌+◌, true, false, cond, List, [], ◌∷◌, ◌++◌, length, take, drop, map, get_or, refl, sym, ap, ◌∙◌, subst, arith, leb}
use Rattle.std.proofs.lemmas.Bool.{lt-ltb, le-ltb, ne_eqb}
use Rattle.std.specs.List.{AllByRecursion, fold}
use Rattle.std.proofs.lemmas.List.{drop_more, take_all, get_or-map, length-map}
use Rattle.std.proofs.lemmas.List.Sums.{fold_more}
use Rattle.std.specs.Ordering.{nat_cmp}
use Rattle.std.specs.BTreeMap.{insert_entry}
use Rattle.uf2_image.specs.declared.parts.Part.{Part}
use Rattle.uf2_image.specs.Uf2.{in_order, part_of, target_of, insert_part, LieFrom}
use Rattle.uf2_image.specs.Reading.{AreApart, AreSpread, CanBePlaced, IsSolid}

-- each part with its address as its key
unfoldable pub keyed_parts : List Part → List (ℕ × Part)
keyed_parts [] = []
keyed_parts (p ∷ ps) = (p.address, p) ∷ keyed_parts ps

put_before : (p q : Part) (qs : List Part) → p.address < q.address → insert_part (q ∷ qs) p ≡ p ∷ q ∷ qs
put_before p q qs h = rw (lt-ltb p.address q.address h) refl

put_behind : (p q : Part) (qs : List Part) → q.address < p.address → insert_part (q ∷ qs) p ≡ q ∷ insert_part qs p
put_behind p q qs h = rw (le-ltb p.address q.address (omega arith)) refl

insert_before : (p q : Part) (es : List (ℕ × Part)) → p.address < q.address → insert_entry nat_cmp ((q.address, q) ∷ es) p.address p ≡ (p.address, p) ∷ (q.address, q) ∷ es
insert_before p q es h = rw (lt-ltb p.address q.address h) refl

insert_behind : (p q : Part) (es : List (ℕ × Part)) → q.address < p.address → insert_entry nat_cmp ((q.address, q) ∷ es) p.address p ≡ (q.address, q) ∷ insert_entry nat_cmp es p.address p
insert_behind p q es h =
    let other : p.address ≢ q.address = omega arith in
    rw (le-ltb p.address q.address (omega arith), ne_eqb p.address q.address other) refl

-- an ordered map places a part as the definition does
pub keyed_parts-insert_part : (ps : List Part) (p : Part) → AllByRecursion (AreApart p) ps → insert_entry nat_cmp (keyed_parts ps) p.address p ≡ keyed_parts (insert_part ps p)
unfolding keyed_parts
keyed_parts-insert_part [] p h = refl
keyed_parts-insert_part (q ∷ qs) p h = elim h.0 [
  | inl before ↦ insert_before p q (keyed_parts qs) before.0 ∙ sym (ap keyed_parts (put_before p q qs before.0))
  | inr behind ↦ insert_behind p q (keyed_parts qs) behind.0 ∙ ap (λ es. (q.address, q) ∷ es) (keyed_parts-insert_part qs p h.1) ∙ sym (ap keyed_parts (put_behind p q qs behind.0))
]

-- parts without overlap stay so where one more is placed that is apart from each
pub LieFrom-insert_part : (low : ℕ) (ps : List Part) (p : Part) → LieFrom low ps → low ≤ p.address → p.address + length p.bytes ≤ 0x20042000 → AllByRecursion (AreApart p) ps → LieFrom low (insert_part ps p)
LieFrom-insert_part low [] p lie from to h = (from, to)
LieFrom-insert_part low (q ∷ qs) p lie from to h = elim h.0 [
  | inl before ↦ subst (λ (xs : List Part). LieFrom low xs) (sym (put_before p q qs before.0)) (from, (before.1, lie.1))
  | inr behind ↦ subst (λ (xs : List Part). LieFrom low xs) (sym (put_behind p q qs behind.0)) (lie.0, LieFrom-insert_part (q.address + length q.bytes) qs p lie.1 behind.1 to h.1)
]

pub LieFrom-all : (placed ps : List Part) → LieFrom 0x20000000 placed → CanBePlaced placed ps → LieFrom 0x20000000 (fold insert_part placed ps)
LieFrom-all placed [] lie can = lie
LieFrom-all placed (p ∷ ps) lie can = LieFrom-all (insert_part placed p) ps (LieFrom-insert_part 0x20000000 placed p lie can.0.start can.0.finish can.1) can.2

-- what holds of a part and of each other holds of each where the part is placed
pub All-insert_part : (P : Part → Type 0) (ps : List Part) (p : Part) → P p → AllByRecursion P ps → AllByRecursion P (insert_part ps p)
All-insert_part P [] p here h = (here, tt)
All-insert_part P (q ∷ qs) p here h = elim (leb (suc p.address) q.address) as (λ b. AllByRecursion P (cond b (p ∷ q ∷ qs) (q ∷ insert_part qs p))) [
  | true ↦ (here, (h.0, h.1))
  | false ↦ (h.0, All-insert_part P qs p here h.1)
]

pub All-fold : (P : Part → Type 0) (placed ps : List Part) → AllByRecursion P placed → AllByRecursion P ps → AllByRecursion P (fold insert_part placed ps)
All-fold P placed [] h t = h
All-fold P placed (p ∷ ps) h t = All-fold P (insert_part placed p) ps (All-insert_part P placed p t.0 h) t.1

-- one part more
pub CanBePlaced-push : (placed ps : List Part) (p : Part) → CanBePlaced placed ps → IsSolid p → AllByRecursion (AreApart p) (fold insert_part placed ps) → CanBePlaced placed (ps ++ p ∷ [])
CanBePlaced-push placed [] p can solid apart = (solid, apart, tt)
CanBePlaced-push placed (q ∷ qs) p can solid apart = (can.0, can.1, CanBePlaced-push (insert_part placed q) qs p can.2 solid apart)

-- what is left of the parts can be placed among the first ones
pub CanBePlaced-drop : (placed ps : List Part) (i : ℕ) → CanBePlaced placed ps → CanBePlaced (fold insert_part placed (take i ps)) (drop i ps)
CanBePlaced-drop placed ps zero can = can
CanBePlaced-drop placed [] (suc i) can = tt
CanBePlaced-drop placed (p ∷ ps) (suc i) can = CanBePlaced-drop (insert_part placed p) ps i can.2

pub values_keyed : (ps : List Part) → map (λ entry. entry.1) (keyed_parts ps) ≡ ps
unfolding keyed_parts
values_keyed [] = refl
values_keyed (p ∷ ps) = ap (λ xs. p ∷ xs) (values_keyed ps)

placed_at : (blocks : List (List ℕ)) (i : ℕ) (d : List ℕ) → i < length blocks → AreSpread blocks → AllByRecursion (AreApart (part_of (get_or blocks i d))) (in_order (take i (map part_of blocks)))
placed_at blocks i d lt spread =
    let short : i < length (map part_of blocks) = rw length-map lt in
    let rest = CanBePlaced-drop [] (map part_of blocks) i spread.parts in
    let head = rw (drop_more (map part_of blocks) i (part_of d) short, get_or-map part_of blocks i d (part_of d) lt) at rest in
    head.1

-- an ordered map with the parts of the first i blocks takes the next one
pub placed_more : (blocks : List (List ℕ)) (i : ℕ) (d : List ℕ) → i < length blocks → AreSpread blocks
    → insert_entry nat_cmp (keyed_parts (in_order (take i (map part_of blocks)))) (target_of (get_or blocks i d)) (part_of (get_or blocks i d)) ≡ keyed_parts (in_order (take (i + 1) (map part_of blocks)))
placed_more blocks i d lt spread =
    let short : i < length (map part_of blocks) = rw length-map lt in
    keyed_parts-insert_part (in_order (take i (map part_of blocks))) (part_of (get_or blocks i d)) (placed_at blocks i d lt spread)
    ∙ sym (ap keyed_parts (fold_more insert_part [] (map part_of blocks) i (part_of d) short ∙ ap (insert_part (in_order (take i (map part_of blocks)))) (get_or-map part_of blocks i d (part_of d) lt)))

pub placed_step : (blocks : List (List ℕ)) (i : ℕ) (b : List ℕ) (new old : List (ℕ × Part)) (p : Part) → i < length blocks → AreSpread blocks → b ≡ get_or blocks i b
    → new ≡ insert_entry nat_cmp old p.address p → old ≡ keyed_parts (in_order (take i (map part_of blocks))) → p ≡ part_of b
    → new ≡ keyed_parts (in_order (take (i + 1) (map part_of blocks)))
placed_step blocks i b new old p lt spread is added was same =
    let here : p ≡ part_of (get_or blocks i b) = same ∙ ap part_of is in
    added ∙ ap (λ es. insert_entry nat_cmp es p.address p) was
    ∙ ap (λ (q : Part). insert_entry nat_cmp (keyed_parts (in_order (take i (map part_of blocks)))) q.address q) here
    ∙ placed_more blocks i b lt spread

pub values_of_all : (blocks : List (List ℕ)) (i : ℕ) (es : List (ℕ × Part)) → es ≡ keyed_parts (in_order (take i (map part_of blocks))) → length blocks ≤ i
    → map (λ entry. entry.1) es ≡ in_order (map part_of blocks)
values_of_all blocks i es is all =
    let short : length (map part_of blocks) ≤ i = rw length-map all in
    ap (map (λ entry. entry.1)) is ∙ values_keyed (in_order (take i (map part_of blocks))) ∙ ap in_order (take_all i (map part_of blocks) short)

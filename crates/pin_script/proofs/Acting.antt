-- The last entry of a script for a pin is the one with the greatest pair of cycle and line.
use Rattle.std.proofs.Common.{◌≡◌, ◌≤◌, ℕ, ◌==◌, nat_le, Bool, true, false, ◌&&◌, cond, List, [], ◌∷◌, map, Option, Some, None, inl, inr, refl, sym, ap, ◌∙◌, arith}
use Rattle.std.proofs.lemmas.Bool.{cases_Bool}
use Rattle.std.proofs.lemmas.Bool.Decides.{nat_tests}
use Rattle.std.specs.List.{filter}
use Rattle.pin_script.specs.declared.entry.Entry.{Entry}
use Rattle.pin_script.specs.declared.entry.LineEntry.{LineEntry}
use Rattle.pin_script.specs.Levels.{is_due, is_for, last_of, level_or_free}
use Rattle.pin_script.specs.Script.{in_order, inserted, without_line}
use Rattle.pin_script.specs.Laws.{LinesFrom, TheGreatestPairActs, acting, greater, is_before, level_of, may_act}
use Rattle.pin_script.proofs.Sorting.{UpFrom, in_order-up, is_le}

-- ---- the last of the entries that may act

abbrev with_last : LineEntry → Option LineEntry → Option LineEntry
with_last x None = Some x
with_last x (Some y) = Some y

last_cons : (x : LineEntry) (xs : List LineEntry) → last_of (x ∷ xs) ≡ with_last x (last_of xs)
last_cons x [] = refl
last_cons x (y ∷ []) = refl
last_cons x (y ∷ z ∷ zs) = last_cons x (z ∷ zs)

-- of these entries the last one that may act
abbrev final : ℕ → ℕ → List LineEntry → Option LineEntry
final c p xs = last_of (filter (may_act c p) xs)

final-go : (b : Bool) (x : LineEntry) (l : List LineEntry) → last_of (cond b (x ∷ l) l) ≡ cond b (with_last x (last_of l)) (last_of l)
final-go true x l = last_cons x l
final-go false x l = refl

final_cons : (c p : ℕ) (x : LineEntry) (xs : List LineEntry) →
    final c p (x ∷ xs) ≡ cond (may_act c p x) (with_last x (final c p xs)) (final c p xs)
final_cons c p x xs = final-go (may_act c p x) x (filter (may_act c p) xs)

-- ---- insertion

-- by cycles alone
abbrev later : LineEntry → Option LineEntry → Option LineEntry
later x None = Some x
later x (Some y) = cond (nat_le x.cycle y.cycle) (Some y) (Some x)

-- an option that has no entry below a cycle
abbrev NotBelow : ℕ → Option LineEntry → Type 0
NotBelow low None = Unit {0}
NotBelow low (Some y) = low ≤ y.cycle

weaker : (low low' : ℕ) (o : Option LineEntry) → low ≤ low' → NotBelow low' o → NotBelow low o
weaker low low' None le h = tt
weaker low low' (Some y) le h = omega (arith, h)

not_below-go : (low : ℕ) (b : Bool) (x : LineEntry) (o : Option LineEntry) → low ≤ x.cycle → NotBelow low o → NotBelow low (cond b (with_last x o) o)
not_below-go low true x None le h = le
not_below-go low true x (Some y) le h = h
not_below-go low false x o le h = h

not_below : (low c p : ℕ) (xs : List LineEntry) → UpFrom low xs → NotBelow low (final c p xs)
not_below low c p [] u = tt
not_below low c p (x ∷ xs) u =
    rw (final_cons c p x xs)
    (not_below-go low (may_act c p x) x (final c p xs) u.0 (weaker low x.cycle (final c p xs) u.0 (not_below x.cycle c p xs u.1)))

stays : (x : LineEntry) (o : Option LineEntry) → NotBelow x.cycle o → with_last x o ≡ later x o
stays x None h = refl
stays x (Some y) h = let le : nat_le x.cycle y.cycle ≡ true = grind (arith, nat_tests) in rw le refl

past : (x y : LineEntry) (o : Option LineEntry) → nat_le x.cycle y.cycle ≡ false → with_last y (later x o) ≡ later x (with_last y o)
past x y None h = rw h refl
past x y (Some z) h = go (nat_le x.cycle z.cycle)
  where
    go : (b : Bool) → with_last y (cond b (Some z) (Some x)) ≡ cond b (Some z) (Some x)
    go true = refl
    go false = refl

swapped : (a b : Bool) (x y : LineEntry) (o : Option LineEntry) → with_last y (later x o) ≡ later x (with_last y o) →
    cond b (with_last y (cond a (later x o) o)) (cond a (later x o) o) ≡ cond a (later x (cond b (with_last y o) o)) (cond b (with_last y o) o)
swapped true true x y o h = h
swapped true false x y o h = refl
swapped false true x y o h = refl
swapped false false x y o h = refl

final_inserted : (low c p : ℕ) (x : LineEntry) (ys : List LineEntry) → UpFrom low ys →
    final c p (inserted x ys) ≡ cond (may_act c p x) (later x (final c p ys)) (final c p ys)
final_inserted low c p x [] u = final_cons c p x []
final_inserted low c p x (y ∷ ys) u = elim (cases_Bool (nat_le x.cycle y.cycle)) [
  | inl is ↦
      rw is
      (final_cons c p x (y ∷ ys)
      ∙ ap (λ o. cond (may_act c p x) o (final c p (y ∷ ys)))
      (stays x (final c p (y ∷ ys)) (not_below x.cycle c p (y ∷ ys) ((is_le x.cycle y.cycle is, u.1)))))
  | inr after ↦
      rw after
      (final_cons c p y (inserted x ys)
      ∙ ap (λ o. cond (may_act c p y) (with_last y o) o) (final_inserted y.cycle c p x ys u.1)
      ∙ swapped (may_act c p x) (may_act c p y) x y (final c p ys) (past x y (final c p ys) after)
      ∙ ap (λ o. cond (may_act c p x) (later x o) o) (sym (final_cons c p y ys)))
]

-- ---- lines

abbrev NotEarlier : ℕ → Option LineEntry → Type 0
NotEarlier low None = Unit {0}
NotEarlier low (Some y) = low ≤ y.line

earlier_weaker : (low low' : ℕ) (o : Option LineEntry) → low ≤ low' → NotEarlier low' o → NotEarlier low o
earlier_weaker low low' None le h = tt
earlier_weaker low low' (Some y) le h = omega (arith, h)

not_earlier-go : (low : ℕ) (b d : Bool) (x y : LineEntry) → low ≤ x.line → low ≤ y.line →
    NotEarlier low (cond b (cond d (Some y) (Some x)) (Some y))
not_earlier-go low true true x y h i = i
not_earlier-go low true false x y h i = h
not_earlier-go low false d x y h i = i

not_earlier-none : (low : ℕ) (b : Bool) (x : LineEntry) → low ≤ x.line → NotEarlier low (cond b (Some x) None)
not_earlier-none low true x h = h
not_earlier-none low false x h = tt

not_earlier-by : (low : ℕ) (b : Bool) (x : LineEntry) (o : Option LineEntry) → low ≤ x.line → NotEarlier low o → NotEarlier low (cond b (greater x o) o)
not_earlier-by low b x None h i = not_earlier-none low b x h
not_earlier-by low b x (Some y) h i = not_earlier-go low b (is_before x y) x y h i

not_earlier : (low c p : ℕ) (xs : List LineEntry) → LinesFrom low xs → NotEarlier low (acting c p xs)
not_earlier low c p [] l = tt
not_earlier low c p (x ∷ xs) l =
    not_earlier-by low (may_act c p x) x (acting c p xs) l.0 (earlier_weaker low x.line (acting c p xs) l.0 (not_earlier x.line c p xs l.1))

by_pair : (x y : LineEntry) → x.line ≤ y.line → is_before x y ≡ nat_le x.cycle y.cycle
by_pair x y h = grind (arith, nat_tests)

same_greater : (x : LineEntry) (o : Option LineEntry) → NotEarlier x.line o → later x o ≡ greater x o
same_greater x None h = refl
same_greater x (Some y) h = rw (by_pair x y h) refl

final_is : (low c p : ℕ) (xs : List LineEntry) → LinesFrom low xs → final c p (in_order xs) ≡ acting c p xs
unfolding in_order
final_is low c p [] l = refl
final_is low c p (x ∷ xs) l =
    final_inserted 0 c p x (in_order xs) (in_order-up xs)
    ∙ ap (λ o. cond (may_act c p x) (later x o) o) (final_is x.line c p xs l.1)
    ∙ ap (λ o. cond (may_act c p x) o (acting c p xs)) (same_greater x (acting c p xs) (not_earlier x.line c p xs l.1))

-- ---- without lines

kept_go : (b : Bool) (y : LineEntry) (l : List Entry) (m : List LineEntry) → l ≡ map without_line m → cond b (without_line y ∷ l) l ≡ map without_line (cond b (y ∷ m) m)
kept_go true y l m h = ap (λ l. without_line y ∷ l) h
kept_go false y l m h = h

due_go : (a : Bool) (p : ℕ) (y : LineEntry) (l : List Entry) (m : List LineEntry) → filter (is_for p) l ≡ map without_line m →
    filter (is_for p) (cond a (without_line y ∷ l) l) ≡ map without_line (cond (a && (y.pin == p)) (y ∷ m) m)
due_go true p y l m h = kept_go (y.pin == p) y (filter (is_for p) l) m h
due_go false p y l m h = h

filtered : (c p : ℕ) (ys : List LineEntry) →
    filter (is_for p) (filter (is_due c) (map without_line ys)) ≡ map without_line (filter (may_act c p) ys)
filtered c p [] = refl
filtered c p (y ∷ ys) = due_go (nat_le y.cycle c) p y (filter (is_due c) (map without_line ys)) (filter (may_act c p) ys) (filtered c p ys)

last_level : (zs : List LineEntry) → level_or_free (last_of (map without_line zs)) ≡ level_of (last_of zs)
last_level [] = refl
last_level (z ∷ []) = refl
last_level (y ∷ z ∷ zs) = last_level (z ∷ zs)

pub the_greatest_pair_acts : TheGreatestPairActs
the_greatest_pair_acts = λ entries cycle pin lines.
    ap (λ (l : List Entry). level_or_free (last_of l)) (filtered cycle pin (in_order entries))
    ∙ last_level (filter (may_act cycle pin) (in_order entries))
    ∙ ap level_of (final_is 0 cycle pin entries lines)

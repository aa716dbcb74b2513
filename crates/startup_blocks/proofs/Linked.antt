-- An image with the table of routines.
use Rattle.std.proofs.Common.{◌≡◌, ◌≤◌, ◌<◌, ◌⊎◌, inl, inr, ℕ, zero, suc, ◌+◌, Bool, true, false, cond, not, ◌&&◌, List, [], ◌∷◌, ◌++◌, length, take, drop, Option, Some, None, refl, sym, ap, subst, ◌∙◌, arith, append_assoc, ltb, leb}
use Rattle.std.specs.List.{find, position, position_or_len, range_with_len, AllByRecursion}
use Rattle.std.proofs.lemmas.Bool.{or_parts, ltb-false}
use Rattle.uf2_image.specs.declared.parts.Part.{Part}
use Rattle.uf2_image.specs.declared.parts.Image.{Image}
use Rattle.uf2_image.specs.Uf2.{insert_part, FitsSram}
use Rattle.uf2_image.specs.Reading.{AreApart}
use Rattle.uf2_image.proofs.Placing.{LieFrom-insert_part}
use Rattle.uf2_image.proofs.Spread.{apart_rows}
use Rattle.startup_blocks.specs.Table.{loads, table, table_bytes, taken, with_table, HaveBytes}

-- ## Where the table stands

abbrev pub place : List Part → ℕ
place parts = position_or_len (λ part. ltb 0x20040000 part.address) parts

abbrev IsPut : List Part → Type 0
IsPut parts = insert_part parts table ≡ take (place parts) parts ++ table ∷ drop (place parts) parts

put_by : (p : Part) (ps : List Part) (b : Bool) → ltb 0x20040000 p.address ≡ b → IsPut ps → IsPut (p ∷ ps)
put_by p ps true h rest = rw h refl
put_by p ps false h rest =
    let one : 1 + place ps ≡ suc (place ps) = omega arith in
    rw (h, one) (ap (λ (xs : List Part). p ∷ xs) rest)

put : (parts : List Part) → IsPut parts
put [] = refl
put (p ∷ ps) = put_by p ps (ltb 0x20040000 p.address) refl (put ps)

pub put_is : (parts : List Part) → insert_part parts table ≡ take (place parts) parts ++ table ∷ drop (place parts) parts
put_is parts = put parts

pub put_image : (image : Image) (parts new : List Part) (k : ℕ) → parts ≡ image.parts → k ≡ place parts → new ≡ (take k parts ++ table ∷ []) ++ drop k parts
    → record { parts = new; entry = image.entry } ≡ with_table image
put_image image parts new k same at is =
    let whole : new ≡ insert_part parts table =
    is ∙ append_assoc (take k parts) (table ∷ []) (drop k parts) ∙ ap (λ n. take n parts ++ table ∷ drop n parts) at ∙ sym (put_is parts) in
    ap (λ (ps : List Part). record { parts = ps; entry = image.entry }) (whole ∙ ap (λ (ps : List Part). insert_part ps table) same)

-- ## The first part behind it

within_by : (b : Bool) (n m : ℕ) → n ≤ m → cond (not b) (1 + n) 0 ≤ suc m
within_by true n m le = omega arith
within_by false n m le = omega arith

place_within : (parts : List Part) → place parts ≤ length parts
place_within [] = omega arith
place_within (p ∷ ps) = within_by (ltb 0x20040000 p.address) (place ps) (length ps) (place_within ps)

some_of : (b : Bool) (k n : ℕ) → Some k ≡ cond b (Some n) None → k ≡ n
some_of true k n h = cc
some_of false k n h = cc

pub place_some : (parts : List Part) (k : ℕ) → Some k ≡ position (λ part. ltb 0x20040000 part.address) parts → k ≡ position_or_len (λ part. ltb 0x20040000 part.address) parts
place_some parts k h = some_of (ltb (place parts) (length parts)) k (place parts) h

none_of : (b : Bool) (n : ℕ) → None ≡ cond b (Some n) None → b ≡ false
none_of true n h = cc
none_of false n h = refl

pub place_none : (parts : List Part) → None ≡ position (λ part. ltb 0x20040000 part.address) parts → length parts ≡ position_or_len (λ part. ltb 0x20040000 part.address) parts
place_none parts h =
    let past : length parts ≤ place parts = ltb-false (place parts) (length parts) (none_of (ltb (place parts) (length parts)) (place parts) h) in
    omega (arith, past, place_within parts)

-- ## It lies apart from the parts

at_or_above : (a m : ℕ) → a ≤ m → (a ≡ m) ⊎ (a + 1 ≤ m)
at_or_above a m h = grind arith

find_parts : (b : Bool) (a : ℕ) (rest : Option ℕ) → cond b (Some a) rest ≡ None → (b ≡ false) × (rest ≡ None)
find_parts true a rest h = cc
find_parts false a rest h = (refl, h)

each_false : (t : ℕ → Bool) (a n m : ℕ) → find t (range_with_len a n) ≡ None → a ≤ m → m < a + n → t m ≡ false
each_false t a zero m h le lt = absurd (omega arith)
each_false t a (suc n) m h le lt =
    let both = find_parts (t a) a (find t (range_with_len (a + 1) n)) h in
    elim (at_or_above a m le) [
      | inl same ↦ ap t (sym same) ∙ both.0
      | inr above ↦ each_false t (a + 1) n m both.1 above (omega arith)
    ]

none_loaded : (parts : List Part) → taken parts ≡ None → (a : ℕ) → 0x20040000 ≤ a → a < 0x20040000 + 32 → loads parts a ≡ false
unfolding taken
none_loaded parts none a from to = each_false (loads parts) 0x20040000 32 a none from to

length_table : length table_bytes ≡ 32
unfolding table_bytes
length_table = refl

apart_one : (q : Part) → 0 < length q.bytes → ((a : ℕ) → 0x20040000 ≤ a → a < 0x20040000 + length table_bytes → (leb q.address a && ltb a (q.address + length q.bytes)) ≡ false) → AreApart table q
apart_one q some none = apart_rows 0x20040000 (length table_bytes) q.address (length q.bytes) (omega (arith, length_table)) some none

all_apart : (parts : List Part) → HaveBytes parts → ((a : ℕ) → 0x20040000 ≤ a → a < 0x20040000 + length table_bytes → loads parts a ≡ false) → AllByRecursion (AreApart table) parts
unfolding loads
all_apart [] some none = tt
all_apart (q ∷ qs) some none =
    let each = λ (a : ℕ) (from : 0x20040000 ≤ a) (to : a < 0x20040000 + length table_bytes). or_parts (leb q.address a && ltb a (q.address + length q.bytes)) (loads qs a) (none a from to) in
    (apart_one q some.0 (λ a from to. (each a from to).0), all_apart qs some.1 (λ a from to. (each a from to).1))

pub with_table_fits : (image : Image) → FitsSram image → taken image.parts ≡ None → HaveBytes image.parts → FitsSram (with_table image)
with_table_fits image fits none some =
    let within : (a : ℕ) → 0x20040000 ≤ a → a < 0x20040000 + length table_bytes → loads image.parts a ≡ false =
    λ a from to. none_loaded image.parts none a from (omega (arith, to, length_table)) in
    record {
      parts = LieFrom-insert_part 0x20000000 image.parts table fits.parts (omega arith) (omega (arith, length_table)) (all_apart image.parts some within);
      even = fits.even;
      from_start = fits.from_start;
      before_end = fits.before_end;
    }

pub put_fits : (image new : Image) → new ≡ with_table image → FitsSram image → taken image.parts ≡ None → HaveBytes image.parts → FitsSram new
put_fits image new is fits none some = subst (λ (i : Image). FitsSram i) (sym is) (with_table_fits image fits none some)

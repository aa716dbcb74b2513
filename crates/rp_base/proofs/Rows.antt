-- Lists of rows: where no two rows share an offset, each row is the one that is found at its offsets.
use Rattle.std.proofs.Common.{◌≡◌, refl, sym, ap, ◌∙◌, ℕ, zero, suc, ◌+◌, ◌-◌, ◌*◌, ◌/◌, ◌%◌, ◌<◌, Bool, true, false, not, ◌&&◌, cond, List, [], ◌∷◌, ◌++◌, Some, None, inl, inr, true≢false, arith}
use Rattle.std.specs.Prelude.{◌==◌, ◌≢◌, ◌≤◌, nat_le, nat_lt, if◌then◌else◌, Option, length, is_some, slice_index_or, ⊤}
use Rattle.std.proofs.Math.Nat.{mul-div_cancel, mul-mod_left, mod-eq-sub-div-mul, div-mul-le_self, div-lt_iff_lt-mul, mul-lt-mul_of_pos_right, mul-le-mul_right, mod-eq_of_lt}
use native.Mathlib.Nat.{add-mul-mod_self_right}
use Rattle.std.proofs.lemmas.Grind.{common_steps}
use Rattle.std.proofs.lemmas.Bool.Decides.{nat_tests, eqb_tells}
use Rattle.rp_base.specs.declared.resettable.Resettable.{Resettable}
use Rattle.rp_base.specs.Held.{unless_held}
use Rattle.rp_base.specs.Resettable.{unless_held_becomes}
use Rattle.rp_base.specs.Rows.{Place, At, Each, count_of, first_of, offset_at, is_at, number_at, Row, at_row, word_at, has_row, effect_at, EachOffset, IsListed, IsHeld}

-- ---- rows that are apart

-- each number below a bound passes
abbrev pub each_below : (ℕ → Bool) → ℕ → Bool
each_below test zero = true
each_below test (suc n) = test n && each_below test n

abbrev pub is_spread : Place → Bool
is_spread (At offset) = true
is_spread (Each first count stride) = nat_lt 0 stride

-- no two rows share an offset
abbrev pub are_apart : {V S : Type 0} → List (Row V S) → Bool
are_apart [] = true
are_apart (row ∷ rows) =
    is_spread row.place && (each_below (λ n. not (has_row rows (offset_at row.place n))) (count_of row.place) && are_apart rows)

-- each offset is below a bound, or none is
abbrev pub is_below : ℕ → Place → Bool
is_below bound (At offset) = nat_lt offset bound
is_below bound (Each first count stride) = nat_lt 0 stride && nat_lt (first + (count - 1) * stride) bound

abbrev pub is_from : ℕ → Place → Bool
is_from bound (At offset) = nat_le bound offset
is_from bound (Each first count stride) = nat_le bound first

-- the offsets of the first rows are below a bound, and those of the others from it on
abbrev pub is_cut : {V S : Type 0} → ℕ → List (Row V S) → List (Row V S) → Bool
is_cut bound [] [] = true
is_cut bound [] (row ∷ high) = is_from bound row.place && is_cut bound [] high
is_cut bound (row ∷ low) high = is_below bound row.place && is_cut bound low high

abbrev pub are_below : {V S : Type 0} → ℕ → List (Row V S) → Bool
are_below bound [] = true
are_below bound (row ∷ rows) = is_below bound row.place && are_below bound rows

-- a test tells where there are words: below a bound each offset is tried
abbrev pub is_told_below : {V S : Type 0} → (ℕ → Bool) → List (Row V S) → ℕ → Bool
is_told_below test rows bound = each_below (λ at. if has_row rows at then test at else not (test at)) bound

-- ---- tests

first_of_both : (b c : Bool) → (b && c) ≡ true → b ≡ true
first_of_both true c e = refl
first_of_both false c e = absurd (true≢false (sym e))

last_of_both : (b c : Bool) → (b && c) ≡ true → c ≡ true
last_of_both true c e = e
last_of_both false c e = absurd (true≢false (sym e))

is_not : (b : Bool) → not b ≡ true → b ≡ false
is_not true e = absurd (true≢false (sym e))
is_not false e = refl

same : (n : ℕ) → (n == n) ≡ true
same n = grind (arith, nat_tests, common_steps)

is_same : (m n : ℕ) → (m == n) ≡ true → m ≡ n
is_same m n e = grind (arith, nat_tests, common_steps)

is_less : (m n : ℕ) → nat_lt m n ≡ true → m < n
is_less m n e = grind (arith, nat_tests, common_steps)

is_low : (m n : ℕ) → nat_le m n ≡ true → m ≤ n
is_low m n e = grind (arith, nat_tests, common_steps)

each_below-at : (test : ℕ → Bool) (m n : ℕ) → each_below test m ≡ true → n < m → test n ≡ true
each_below-at test zero n e h = absurd (omega arith)
each_below-at test (suc m) n e h = elim (eqb_tells n m) [
  | inl x ↦ ap test x.1 ∙ first_of_both (test m) (each_below test m) e
  | inr x ↦ each_below-at test m n (last_of_both (test m) (each_below test m) e) (let other = x.1 in omega (arith, other))
]

pub either-way : {S : Type 0} (P : S → Type 0) (b : Bool) {x y : S} → P x → P y → P (cond b x y)
either-way P true p q = p
either-way P false p q = q

-- ---- places

is_at-offset : (p : Place) (n : ℕ) → is_spread p ≡ true → n < count_of p → is_at p (offset_at p n) ≡ true
is_at-offset (At offset) n e h = same offset
is_at-offset (Each first count stride) n e h =
    let less : n * stride < count * stride = mul-lt-mul_of_pos_right h (is_less 0 stride e) in
    let low : nat_le first (first + n * stride) ≡ true = grind (arith, nat_tests, common_steps) in
    let high : nat_lt (first + n * stride) (first + count * stride) ≡ true = grind (arith, nat_tests, common_steps) in
    let away : first + n * stride - first ≡ n * stride = omega arith in
    rw (low, high, away, mul-mod_left n stride) refl

number_at-offset : (p : Place) (n : ℕ) → is_spread p ≡ true → n < count_of p → number_at p (offset_at p n) ≡ n
number_at-offset (At offset) n e h = omega arith
number_at-offset (Each first count stride) n e h =
    let away : first + n * stride - first ≡ n * stride = omega arith in
    rw (away) (mul-div_cancel n (is_less 0 stride e))

is_at-only : (p : Place) (at : ℕ) → is_spread p ≡ true → is_at p at ≡ true → (number_at p at < count_of p) × (at ≡ offset_at p (number_at p at))
is_at-only (At offset) at e h = (omega arith, is_same at offset h)
is_at-only (Each first count stride) at e h =
    let rest = last_of_both (nat_le first at) (nat_lt at (first + count * stride) && (at - first) % stride == 0) h in
    let low : first ≤ at = is_low first at (first_of_both _ _ h) in
    let high : at < first + count * stride = is_less at (first + count * stride) (first_of_both _ _ rest) in
    let whole : (at - first) % stride ≡ 0 = is_same ((at - first) % stride) 0 (last_of_both (nat_lt at (first + count * stride)) _ rest) in
    let cut = mod-eq-sub-div-mul (at - first) stride in
    let most = div-mul-le_self (at - first) stride in
    ((div-lt_iff_lt-mul (is_less 0 stride e)).1 (omega (arith, low, high)), omega (arith, low, whole, cut, most))

-- ---- rows

-- what are_apart says of a first row
record IsApart {V S : Type 0} (row : Row V S) (rows : List (Row V S)) : Type 0 where
  spread : is_spread row.place ≡ true
  alone : (n : ℕ) → n < count_of row.place → has_row rows (offset_at row.place n) ≡ false
  rest : are_apart rows ≡ true

is_apart : {V S : Type 0} (row : Row V S) (rows : List (Row V S)) → are_apart (row ∷ rows) ≡ true → IsApart row rows
is_apart row rows e =
    let alone = each_below (λ n. not (has_row rows (offset_at row.place n))) (count_of row.place) in
    let others = last_of_both (is_spread row.place) (alone && are_apart rows) e in
    record {
      spread = first_of_both (is_spread row.place) (alone && are_apart rows) e;
      alone = λ n h. is_not _ (each_below-at (λ n. not (has_row rows (offset_at row.place n))) (count_of row.place) n (first_of_both alone (are_apart rows) others) h);
      rest = last_of_both alone (are_apart rows) others;
    }

-- no offset of a row is one of a row that is apart
is_alone : {V S : Type 0} (row : Row V S) (rows : List (Row V S)) (at : ℕ) → IsApart row rows → has_row rows at ≡ true → (b : Bool)
    → is_at row.place at ≡ b → b ≡ false
is_alone row rows at apart there false e = refl
is_alone row rows at apart there true e =
    let only = is_at-only row.place at apart.spread e in
    absurd (true≢false (sym there ∙ ap (has_row rows) only.1 ∙ apart.alone (number_at row.place at) only.0))

found_at : {V S A : Type 0} (none : A) (found : Row V S → ℕ → A) (rows : List (Row V S)) (k : ℕ) (d : Row V S) (n : ℕ)
    → are_apart rows ≡ true → k < length rows → n < count_of (slice_index_or rows k d).place
    → at_row none found rows (offset_at (slice_index_or rows k d).place n) ≡ found (slice_index_or rows k d) n
found_at none found [] k d n e h i = absurd (omega arith)
found_at none found (row ∷ rows) zero d n e h i =
    let apart = is_apart row rows e in
    rw (is_at-offset row.place n apart.spread i, number_at-offset row.place n apart.spread i) refl
found_at none found (row ∷ rows) (suc k) d n e h i =
    let apart = is_apart row rows e in
    let at = offset_at (slice_index_or rows k d).place n in
    let there : has_row rows at ≡ true = found_at false (λ row n. true) rows k d n apart.rest (omega arith) i in
    rw (is_alone row rows at apart there (is_at row.place at) refl) (found_at none found rows k d n apart.rest (omega arith) i)

-- no offset of a row
is_elsewhere : (p : Place) (at : ℕ) → is_spread p ≡ true → ((n : ℕ) → n < count_of p → at ≢ offset_at p n) → (b : Bool) → is_at p at ≡ b → b ≡ false
is_elsewhere p at e h false i = refl
is_elsewhere p at e h true i = let only = is_at-only p at e i in absurd (h (number_at p at) only.0 only.1)

none_at : {V S A : Type 0} (none : A) (found : Row V S → ℕ → A) (rows : List (Row V S)) (at : ℕ)
    → are_apart rows ≡ true → EachOffset (λ row n offset. at ≢ offset) rows → at_row none found rows at ≡ none
none_at none found [] at e h = refl
none_at none found (row ∷ rows) at e h =
    let apart = is_apart row rows e in
    rw (is_elsewhere row.place at apart.spread (h 0 row (omega arith)) (is_at row.place at) refl)
    (none_at none found rows at apart.rest (λ k d i. h (suc k) d (omega arith)))

no_effect : {V S : Type 0} (rows : List (Row V S)) (at : ℕ)
    → are_apart rows ≡ true → EachOffset (λ row n offset. at ≢ offset) rows → (write : Option ℕ) (s : S) → effect_at rows at write s ≡ s
no_effect rows at e h None s = none_at s (λ row n. row.read_does n s) rows at e h
no_effect rows at e h (Some w) s = none_at s (λ row n. row.write_does n w s) rows at e h

is_word-row : {A : Type 0} (b c : Bool) (x : A) (word : Option A) → c ≡ is_some word → cond b true c ≡ is_some (cond b (Some x) word)
is_word-row true c x word e = refl
is_word-row false c x word e = e

is_word : {V S : Type 0} (rows : List (Row V S)) (at : ℕ) (seen : V) (s : S) → has_row rows at ≡ is_some (word_at rows seen at s)
is_word [] at seen s = refl
is_word (row ∷ rows) at seen s =
    is_word-row (is_at row.place at) (has_row rows at) (row.reads (number_at row.place at) seen s) (word_at rows seen at s) (is_word rows at seen s)

-- where no two rows share an offset, each register is what stands at its offset, and nothing stands at any other
pub listed : {V S : Type 0} (rows : List (Row V S)) → are_apart rows ≡ true → IsListed rows
listed rows e = record {
  reads = λ k d h n i seen s. found_at None (λ row n. Some (row.reads n seen s)) rows k d n e h i;
  read_does = λ k d h n i s. found_at s (λ row n. row.read_does n s) rows k d n e h i;
  write_does = λ k d h n i w s. found_at s (λ row n. row.write_does n w s) rows k d n e h i;
  no_word = λ at h seen s. none_at None (λ row n. Some (row.reads n seen s)) rows at e h;
  no_effect = λ at h write s. no_effect rows at e h write s;
  is_word = λ at seen s. is_word rows at seen s;
}

-- ---- a list that is cut at an offset

not_from : (p : Place) (bound at : ℕ) → is_from bound p ≡ true → nat_lt at bound ≡ true → is_at p at ≡ false
not_from (At offset) bound at e h = grind (arith, nat_tests, common_steps)
not_from (Each first count stride) bound at e h = grind (arith, nat_tests, common_steps)

last_offset : (first count stride at n : ℕ) → n < count → at ≡ first + n * stride → at ≤ first + (count - 1) * stride
last_offset first count stride at n h e =
    let most : n * stride ≤ (count - 1) * stride = mul-le-mul_right stride (omega (arith, h)) in omega (arith, e, most)

not_below : (p : Place) (bound at : ℕ) → is_below bound p ≡ true → nat_lt at bound ≡ false → is_at p at ≡ false
not_below (At offset) bound at e h = grind (arith, nat_tests, common_steps)
not_below (Each first count stride) bound at e h = not_within first count stride bound at e h (is_at (Each first count stride) at) refl
  where
    not_within : (first count stride bound at : ℕ) → is_below bound (Each first count stride) ≡ true → nat_lt at bound ≡ false → (b : Bool)
        → is_at (Each first count stride) at ≡ b → b ≡ false
    not_within first count stride bound at e h false i = refl
    not_within first count stride bound at e h true i =
        let only = is_at-only (Each first count stride) at (first_of_both (nat_lt 0 stride) _ e) i in
        let last = last_offset first count stride at ((at - first) / stride) only.0 only.1 in
        let low = is_less (first + (count - 1) * stride) bound (last_of_both (nat_lt 0 stride) _ e) in
        grind (arith, nat_tests, common_steps)

none_high : {V S A : Type 0} (none : A) (found : Row V S → ℕ → A) (bound : ℕ) (high : List (Row V S)) (at : ℕ)
    → is_cut bound [] high ≡ true → nat_lt at bound ≡ true → at_row none found high at ≡ none
none_high none found bound [] at e h = refl
none_high none found bound (row ∷ high) at e h =
    rw (not_from row.place bound at (first_of_both _ _ e) h) (none_high none found bound high at (last_of_both (is_from bound row.place) _ e) h)

cut-low : {V S A : Type 0} (none : A) (found : Row V S → ℕ → A) (bound : ℕ) (low high : List (Row V S)) (at : ℕ)
    → is_cut bound low high ≡ true → nat_lt at bound ≡ true → at_row none found (low ++ high) at ≡ at_row none found low at
cut-low none found bound [] high at e h = none_high none found bound high at e h
cut-low none found bound (row ∷ low) high at e h =
    ap (λ x. if is_at row.place at then found row (number_at row.place at) else x) (cut-low none found bound low high at (last_of_both (is_below bound row.place) _ e) h)

cut-high : {V S A : Type 0} (none : A) (found : Row V S → ℕ → A) (bound : ℕ) (low high : List (Row V S)) (at : ℕ)
    → is_cut bound low high ≡ true → nat_lt at bound ≡ false → at_row none found (low ++ high) at ≡ at_row none found high at
cut-high none found bound [] high at e h = refl
cut-high none found bound (row ∷ low) high at e h =
    rw (not_below row.place bound at (first_of_both _ _ e) h) (cut-high none found bound low high at (last_of_both (is_below bound row.place) _ e) h)

cut-by : {V S A : Type 0} (none : A) (found : Row V S → ℕ → A) (bound : ℕ) (low high : List (Row V S)) (at : ℕ)
    → is_cut bound low high ≡ true → (b : Bool) → nat_lt at bound ≡ b
    → at_row none found (low ++ high) at ≡ cond b (at_row none found low at) (at_row none found high at)
cut-by none found bound low high at e true h = cut-low none found bound low high at e h
cut-by none found bound low high at e false h = cut-high none found bound low high at e h

pub cut : {V S A : Type 0} (none : A) (found : Row V S → ℕ → A) (bound : ℕ) (low high : List (Row V S)) (at : ℕ)
    → is_cut bound low high ≡ true
    → at_row none found (low ++ high) at ≡ (if nat_lt at bound then at_row none found low at else at_row none found high at)
cut none found bound low high at e = cut-by none found bound low high at e (nat_lt at bound) refl

pub none_above : {V S A : Type 0} (none : A) (found : Row V S → ℕ → A) (bound : ℕ) (rows : List (Row V S)) (at : ℕ)
    → are_below bound rows ≡ true → nat_lt at bound ≡ false → at_row none found rows at ≡ none
none_above none found bound [] at e h = refl
none_above none found bound (row ∷ rows) at e h =
    rw (not_below row.place bound at (first_of_both _ _ e) h) (none_above none found bound rows at (last_of_both (is_below bound row.place) _ e) h)

neither : (b c : Bool) → cond b true c ≡ false → (b ≡ false) × (c ≡ false)
neither true c e = absurd (true≢false e)
neither false c e = (refl, e)

alike : (b c : Bool) → cond b c (not c) ≡ true → c ≡ b
alike true c e = e
alike false c e = is_not c e

-- where a test agrees with the rows below a bound, which is computed, and is false from there on, it tells where there are words
pub told : {V S : Type 0} (test : ℕ → Bool) (bound : ℕ) (rows : List (Row V S)) (at : ℕ)
    → is_told_below test rows bound ≡ true → are_below bound rows ≡ true → (nat_lt at bound ≡ false → test at ≡ false)
    → test at ≡ has_row rows at
told test bound rows at e all high = told-by (nat_lt at bound) refl
  where
    told-by : (b : Bool) → nat_lt at bound ≡ b → test at ≡ has_row rows at
    told-by true h = alike (has_row rows at) (test at) (each_below-at (λ at. cond (has_row rows at) (test at) (not (test at))) bound at e (is_less at bound h))
    told-by false h = high h ∙ sym (none_above false (λ row n. true) bound rows at all h)

-- ---- rows of which each stands so many times, a stride apart

-- so many, of which the first one is within a stride from a base on
abbrev pub is_strided : ℕ → ℕ → ℕ → Place → Bool
is_strided base count stride (At offset) = false
is_strided base count stride (Each first n apart) =
    nat_lt 0 stride && (n == count && (apart == stride && (nat_le base first && nat_lt first (base + stride))))

abbrev pub are_strided : {V S : Type 0} → ℕ → ℕ → ℕ → List (Row V S) → Bool
are_strided base count stride [] = true
are_strided base count stride (row ∷ rows) = is_strided base count stride row.place && are_strided base count stride rows

-- what is found of the row that has an index in the stride
abbrev pub in_stride : {V S A : Type 0} → ℕ → A → (Row V S → A) → List (Row V S) → ℕ → A
in_stride base none found [] index = none
in_stride base none found (row ∷ rows) index = if base + index == first_of row.place then found row else in_stride base none found rows index

strided_index : (first stride base number index n : ℕ) → base ≤ first → first < base + stride → index < stride
    → base + (number * stride + index) ≡ first + n * stride → base + index ≡ first
strided_index first stride base number index n low high inside e =
    let away : first - base < stride = omega arith in
    let sum : index + number * stride ≡ (first - base) + n * stride = omega (arith, e, low) in
    let left : (index + number * stride) % stride ≡ index = add-mul-mod_self_right index number stride ∙ mod-eq_of_lt inside in
    let right : ((first - base) + n * stride) % stride ≡ first - base = add-mul-mod_self_right (first - base) n stride ∙ mod-eq_of_lt away in
    let is : index ≡ first - base = sym left ∙ ap (λ x. x % stride) sum ∙ right in
    omega (arith, is, low)

strided_place : (first count stride base number index at : ℕ) → nat_lt 0 stride ≡ true → base ≤ first → first < base + stride
    → number < count → index < stride → at ≡ base + (number * stride + index) → (b : Bool) → (base + index == first) ≡ b
    → (is_at (Each first count stride) at ≡ b) × (b ≡ true → number_at (Each first count stride) at ≡ number)
strided_place first count stride base number index at spread low high less inside e true h =
    let here : base + index ≡ first = is_same (base + index) first h in
    let is : at ≡ first + number * stride = omega (arith, e, here) in (
      ap (is_at (Each first count stride)) is ∙ is_at-offset (Each first count stride) number spread less,
      λ yes. ap (number_at (Each first count stride)) is ∙ number_at-offset (Each first count stride) number spread less,
    )
strided_place first count stride base number index at spread low high less inside e false h =
    (other (is_at (Each first count stride) at) refl, λ yes. absurd (true≢false (sym yes)))
  where
    other : (c : Bool) → is_at (Each first count stride) at ≡ c → c ≡ false
    other false i = refl
    other true i =
        let only = is_at-only (Each first count stride) at spread i in
        let is = strided_index first stride base number index (number_at (Each first count stride) at) low high inside (sym e ∙ only.1) in
        absurd (true≢false (sym (ap (λ x. x == first) is ∙ same first) ∙ h))

strided_row : (p : Place) (count stride base number index at : ℕ) → is_strided base count stride p ≡ true → number < count → index < stride
    → at ≡ base + (number * stride + index) → (b : Bool) → (base + index == first_of p) ≡ b
    → (is_at p at ≡ b) × (b ≡ true → number_at p at ≡ number)
strided_row (At offset) count stride base number index at s less inside e b h = absurd (true≢false (sym s))
strided_row (Each first n apart) count stride base number index at s less inside e b h =
    let s1 = last_of_both (nat_lt 0 stride) (n == count && (apart == stride && (nat_le base first && nat_lt first (base + stride)))) s in
    let s2 = last_of_both (n == count) (apart == stride && (nat_le base first && nat_lt first (base + stride))) s1 in
    let s3 = last_of_both (apart == stride) (nat_le base first && nat_lt first (base + stride)) s2 in
    rw (is_same n count (first_of_both _ _ s1), is_same apart stride (first_of_both _ _ s2))
    (strided_place first count stride base number index at (first_of_both _ _ s) (is_low base first (first_of_both _ _ s3))
    (is_less first (base + stride) (last_of_both (nat_le base first) _ s3)) less inside e b h)

strided_step : {V S A : Type 0} (none : A) (found : Row V S → ℕ → A) (row : Row V S) (rows : List (Row V S)) (base number index at : ℕ) (b : Bool)
    → (base + index == first_of row.place) ≡ b → (is_at row.place at ≡ b) × (b ≡ true → number_at row.place at ≡ number)
    → at_row none found rows at ≡ in_stride base none (λ row. found row number) rows index
    → at_row none found (row ∷ rows) at ≡ in_stride base none (λ row. found row number) (row ∷ rows) index
strided_step none found row rows base number index at true h place rest = rw (place.0, h) (ap (found row) (place.1 refl))
strided_step none found row rows base number index at false h place rest = rw (place.0, h) rest

-- in such rows what stands at an offset is told by its number and its index
pub strided : {V S A : Type 0} (none : A) (found : Row V S → ℕ → A) (base count stride : ℕ) (rows : List (Row V S)) (number index at : ℕ)
    → are_strided base count stride rows ≡ true → number < count → index < stride → at ≡ base + (number * stride + index)
    → at_row none found rows at ≡ in_stride base none (λ row. found row number) rows index
strided none found base count stride [] number index at s less inside e = refl
strided none found base count stride (row ∷ rows) number index at s less inside e =
    strided_step none found row rows base number index at (base + index == first_of row.place) refl
    (strided_row row.place count stride base number index at (first_of_both _ _ s) less inside e (base + index == first_of row.place) refl)
    (strided none found base count stride rows number index at (last_of_both (is_strided base count stride row.place) _ s) less inside e)

-- ---- what each row keeps

-- a read of each row does nothing
abbrev pub AreStill : {V S : Type 0} → S → List (Row V S) → Type 0
AreStill s [] = ⊤
AreStill s (row ∷ rows) = ((n : ℕ) → row.read_does n s ≡ s) × AreStill s rows

pub still : {V S : Type 0} (rows : List (Row V S)) (at : ℕ) (s : S) → AreStill s rows → effect_at rows at None s ≡ s
still [] at s h = refl
still (row ∷ rows) at s h = either-way (λ x. x ≡ s) (is_at row.place at) (h.0 (number_at row.place at)) (still rows at s h.1)

-- what a read and a write of each row keep
abbrev pub Kept : {V S : Type 0} → (S → Type 0) → S → List (Row V S) → Type 0
Kept P s [] = ⊤
Kept P s (row ∷ rows) = ((n : ℕ) → P (row.read_does n s) × ((w : ℕ) → P (row.write_does n w s))) × Kept P s rows

pub keeps : {V S : Type 0} (P : S → Type 0) (rows : List (Row V S)) (at : ℕ) (write : Option ℕ) (s : S) → P s → Kept P s rows
    → P (effect_at rows at write s)
keeps P [] at None s p h = p
keeps P [] at (Some w) s p h = p
keeps P (row ∷ rows) at None s p h = either-way P (is_at row.place at) (h.0 (number_at row.place at)).0 (keeps P rows at None s p h.1)
keeps P (row ∷ rows) at (Some w) s p h =
    either-way P (is_at row.place at) ((h.0 (number_at row.place at)).1 w) (keeps P rows at (Some w) s p h.1)

-- ---- a block that is held

held-row : (b c : Bool) (x : ℕ) (word : Option ℕ) → unless_held true word ≡ cond c (Some 0) None
    → unless_held true (cond b (Some x) word) ≡ cond (cond b true c) (Some 0) None
held-row true c x word e = refl
held-row false c x word e = e

held-reads : {V S : Type 0} (rows : List (Row V S)) (at : ℕ) (seen : V) (s : S)
    → unless_held true (word_at rows seen at s) ≡ cond (has_row rows at) (Some 0) None
held-reads [] at seen s = refl
held-reads (row ∷ rows) at seen s =
    held-row (is_at row.place at) (has_row rows at) (row.reads (number_at row.place at) seen s) (word_at rows seen at s) (held-reads rows at seen s)

held-stays : {S : Type 0} (b : Resettable S) (after : S) → b.held ≡ true → unless_held_becomes b after ≡ b
held-stays b after e = rw e refl

pub held : {V S : Type 0} (rows : List (Row V S)) → IsHeld rows
held rows = record {
  reads = λ at seen s. held-reads rows at seen s;
  stays = λ at write b e. held-stays b (effect_at rows at write b.block) e;
}

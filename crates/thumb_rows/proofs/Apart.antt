-- No two rows of the table fit one pair: for every two of them the patterns show it.
use Rattle.std.proofs.Common.{◌≡◌, ℕ, zero, suc, ◌+◌, ◌≤◌, Bool, true, false, cond, List, [], ◌∷◌, Option, Some, None, refl, sym, ap, subst, ◌∙◌, arith, rules}
use Rattle.std.specs.Prelude.{◌==◌, ◌&&◌, ◌||◌, not, bit_and, filter, find, length, if◌then◌else◌}
use Rattle.std.specs.List.{list_any, list_all}
use Rattle.std.proofs.lemmas.Nat.{and_assoc, and_comm}
use Rattle.thumb_rows.specs.Rows.{Half, Row, half_fits, second_fits, row_fits, rows, operation_by, fitting}

-- two patterns ask for different values of a bit
abbrev pub conflict : ℕ × ℕ → ℕ × ℕ → Bool
conflict p q = not (bit_and p.1 q.0 == bit_and q.1 p.0)

-- what the first pattern fits the second fits too
abbrev pub inside : ℕ × ℕ → ℕ × ℕ → Bool
inside p q = (bit_and p.0 q.0 == q.0) && (bit_and p.1 q.0 == q.1)

abbrev pub pattern_of : Half → ℕ × ℕ
pattern_of h = (h.mask, h.value)

abbrev pub half_apart : Half → Half → Bool
half_apart h k = conflict (pattern_of h) (pattern_of k) ||
    (list_any (λ o. inside (pattern_of k) o) h.left_out || list_any (λ o. inside (pattern_of h) o) k.left_out)

abbrev pub second_apart : Option Half → Option Half → Bool
second_apart (Some h) (Some k) = half_apart h k
second_apart (Some h) None = false
second_apart None k = false

abbrev pub row_apart : Row → Row → Bool
row_apart r s = half_apart r.first s.first || second_apart r.second s.second

abbrev pub each_apart : List Row → Bool
each_apart [] = true
each_apart (r ∷ rs) = list_all (λ s. row_apart r s) rs && each_apart rs

pub and_left : (a b : Bool) → (a && b) ≡ true → a ≡ true
and_left true b h = refl
and_left false b h = cc

pub and_right : (a b : Bool) → (a && b) ≡ true → b ≡ true
and_right true b h = h
and_right false b h = cc

pub and_both : (a b : Bool) → a ≡ true → b ≡ true → (a && b) ≡ true
and_both true b h k = k
and_both false b h k = cc

pub or_false : (a b : Bool) → a ≡ false → b ≡ false → (a || b) ≡ false
or_false true b h k = cc
or_false false b h k = k

pub not_true : (a : Bool) → not a ≡ true → a ≡ false
not_true true h = cc
not_true false h = refl

pub not_of_false : (a : Bool) → a ≡ false → not a ≡ true
not_of_false true h = cc
not_of_false false h = refl

pub not_false : (a : Bool) → a ≡ true → not a ≡ false
not_false true h = refl
not_false false h = cc

pub or_left : (a b : Bool) → (a || b) ≡ false → a ≡ false
or_left true b h = cc
or_left false b h = refl

pub or_right : (a b : Bool) → (a || b) ≡ false → b ≡ false
or_right true b h = cc
or_right false b h = h

pub eq_of : (a b : ℕ) → (a == b) ≡ true → a ≡ b
eq_of a b h = search rules

-- no number fits two patterns in conflict
no_conflict : (m v n u w : ℕ) → bit_and w m ≡ v → bit_and w n ≡ u → bit_and v n ≡ bit_and u m
no_conflict m v n u w hm hn =
    ap (λ x. bit_and x n) (sym hm) ∙ and_assoc n w m ∙ ap (λ x. bit_and w x) (and_comm m n) ∙ sym (and_assoc m w n)
    ∙ ap (λ x. bit_and x m) hn

pub fits_inside : (m v n u w : ℕ) → bit_and w m ≡ v → bit_and m n ≡ n → bit_and v n ≡ u → bit_and w n ≡ u
fits_inside m v n u w hm hn hu =
    ap (λ x. bit_and w x) (sym hn) ∙ sym (and_assoc n w m) ∙ ap (λ x. bit_and x n) hm ∙ hu

pub eqb_of : (a b : ℕ) → a ≡ b → (a == b) ≡ true
eqb_of a b h = search rules

pub half_pattern : (h : Half) (w : ℕ) → half_fits h w ≡ true → bit_and w h.mask ≡ h.value
half_pattern h w fits = eq_of _ _ (and_left (bit_and w h.mask == h.value) _ fits)

half_left_out : (h : Half) (w : ℕ) → half_fits h w ≡ true → list_any (λ o. bit_and w o.0 == o.1) h.left_out ≡ false
half_left_out h w fits = not_true _ (and_right (bit_and w h.mask == h.value) _ fits)

not_inside_one : (b : Bool) (m v n u w : ℕ) → inside (m, v) (n, u) ≡ b → bit_and w m ≡ v →
    (bit_and w n == u) ≡ false → b ≡ false
not_inside_one false m v n u w is hm misses = refl
not_inside_one true m v n u w is hm misses =
    let covers : bit_and m n ≡ n = eq_of _ _ (and_left (bit_and m n == n) (bit_and v n == u) is) in
    let agrees : bit_and v n ≡ u = eq_of _ _ (and_right (bit_and m n == n) (bit_and v n == u) is) in
    let yes : (bit_and w n == u) ≡ true = eqb_of _ _ (fits_inside m v n u w hm covers agrees) in cc

not_inside : (m v w : ℕ) (os : List (ℕ × ℕ)) → bit_and w m ≡ v → list_any (λ o. bit_and w o.0 == o.1) os ≡ false →
    list_any (λ o. inside (m, v) o) os ≡ false
not_inside m v w [] hm misses = refl
not_inside m v w (o ∷ os) hm misses =
    or_false _ _ (not_inside_one _ m v o.0 o.1 w refl hm (or_left _ _ misses))
    (not_inside m v w os hm (or_right _ _ misses))

-- two tests that are apart fit no halfword both
pub half_apart-false : (h k : Half) (w : ℕ) → half_fits h w ≡ true → half_fits k w ≡ true → half_apart h k ≡ false
half_apart-false h k w hw kw =
    let same : bit_and h.value k.mask ≡ bit_and k.value h.mask = no_conflict h.mask h.value k.mask k.value w
    (half_pattern h w hw) (half_pattern k w kw) in
    or_false _ _ (not_false _ (eqb_of _ _ same))
    (or_false _ _ (not_inside k.mask k.value w h.left_out (half_pattern k w kw) (half_left_out h w hw))
    (not_inside h.mask h.value w k.left_out (half_pattern h w hw) (half_left_out k w kw)))

pub second_apart-false : (h k : Option Half) (w : ℕ) → second_fits h w ≡ true → second_fits k w ≡ true →
    second_apart h k ≡ false
second_apart-false (Some h) (Some k) w hw kw = half_apart-false h k w hw kw
second_apart-false (Some h) None w hw kw = refl
second_apart-false None k w hw kw = refl

pub row_apart-false : (r s : Row) (first second : ℕ) → row_fits r first second ≡ true →
    row_fits s first second ≡ true → row_apart r s ≡ false
row_apart-false r s first second r_fits s_fits =
    or_false _ _ (half_apart-false r.first s.first first (and_left _ _ r_fits) (and_left _ _ s_fits))
    (second_apart-false r.second s.second second (and_right (half_fits r.first first) _ r_fits)
    (and_right (half_fits s.first first) _ s_fits))

-- where a row fits, one that is apart from it does not
apart_misses : (b : Bool) (r s : Row) (first second : ℕ) → row_apart r s ≡ true → row_fits s first second ≡ true →
    row_fits r first second ≡ b → b ≡ false
apart_misses false r s first second apart fits is = refl
apart_misses true r s first second apart fits is = let never = row_apart-false r s first second is fits in cc

misses_apart : (b : Bool) (r s : Row) (first second : ℕ) → row_apart r s ≡ true → row_fits r first second ≡ true →
    row_fits s first second ≡ b → b ≡ false
misses_apart false r s first second apart fits is = refl
misses_apart true r s first second apart fits is = let never = row_apart-false r s first second fits is in cc

-- a row has the patterns of two tests, and whatever else it leaves out
abbrev pub same_pattern : Half → Half → Bool
same_pattern h k = (h.mask == k.mask) && (h.value == k.value)

abbrev pub same_second : Option Half → Option Half → Bool
same_second None None = true
same_second (Some h) (Some k) = same_pattern h k
same_second h k = false

abbrev pub has_patterns : Half → Option Half → Row → Bool
has_patterns h g r = same_pattern h r.first && same_second g r.second

list_all-found : (p t : Row → Bool) (rs : List Row) (r : Row) → list_all p rs ≡ true → find t rs ≡ Some r → p r ≡ true
list_all-found p t [] r all is = cc
list_all-found p t (q ∷ rs) r all is =
    elim (t q) as (λ b. cond b (Some q) (find t rs) ≡ Some r → p r ≡ true) [
      | true ↦ λ here. let same : q ≡ r = cc in let holds = and_left (p q) (list_all p rs) all in cc
      | false ↦ λ there. list_all-found p t rs r (and_right (p q) (list_all p rs) all) there
    ] is

taken : (q r : Row) (rs : List Row) (first second : ℕ) → q ≡ r → row_fits r first second ≡ true → operation_by
    (q ∷ rs) first second ≡ r.operation first second
taken q r rs first second same fits = subst (λ s. operation_by (s ∷ rs) first second ≡ r.operation first second)
    (sym same) (rw fits refl)

pub skipped : (q : Row) (rs : List Row) (first second : ℕ) → row_fits q first second ≡ false → operation_by
    (q ∷ rs) first second ≡ operation_by rs first second
skipped q rs first second misses = rw misses refl

-- the row that fits is the one whose operation is taken
pub operation_by-found : (t : Row → Bool) (rs : List Row) (r : Row) (first second : ℕ) → each_apart rs ≡ true →
    find t rs ≡ Some r → row_fits r first second ≡ true → operation_by rs first second ≡ r.operation first second
operation_by-found t [] r first second apart is fits = cc
operation_by-found t (q ∷ rs) r first second apart is fits =
    elim (t q) as
    (λ b. cond b (Some q) (find t rs) ≡ Some r → operation_by (q ∷ rs) first second ≡ r.operation first second) [
      | true ↦ λ here. let same : q ≡ r = cc in taken q r rs first second same fits
      | false ↦ λ there.
          let away : row_apart q r ≡ true =
          list_all-found (λ s. row_apart q s) t rs r (and_left _ (each_apart rs) apart) there in
          skipped q rs first second (apart_misses _ q r first second away fits refl)
          ∙ operation_by-found t rs r first second (and_right (list_all (λ s. row_apart q s) rs) _ apart) there fits
    ] is

pub rows_apart : each_apart rows ≡ true
unfolding rows
rows_apart = refl

-- a list of which each two rows are apart has at most one row that fits
none_fit : (rs : List Row) (r : Row) (first second : ℕ) → row_fits r first second ≡ true → list_all
    (λ s. row_apart r s) rs ≡ true → length (filter (λ s. row_fits s first second) rs) ≡ 0
none_fit [] r first second fits apart = refl
none_fit (s ∷ rs) r first second fits apart =
    let away = and_left (row_apart r s) (list_all (λ t. row_apart r t) rs) apart in
    let misses = misses_apart _ r s first second away fits refl in
    rw misses (none_fit rs r first second fits (and_right (row_apart r s) _ apart))

zero_or_one : (n : ℕ) → n ≤ 1 → n + (if n == 0 then 1 else 0) ≡ 1
zero_or_one zero small = refl
zero_or_one (suc zero) small = refl
zero_or_one (suc (suc n)) small = absurd (omega arith)

at_most_one : (rs : List Row) (first second : ℕ) → each_apart rs ≡ true → length
    (filter (λ s. row_fits s first second) rs) ≤ 1
at_most_one [] first second apart = omega arith
at_most_one (r ∷ rs) first second apart =
    elim (row_fits r first second) as
    (λ b. row_fits r first second ≡ b → length
    (cond b (r ∷ filter (λ s. row_fits s first second) rs) (filter (λ s. row_fits s first second) rs)) ≤ 1) [
      | true ↦ λ fits. omega
          (arith, none_fit rs r first second fits (and_left (list_all (λ s. row_apart r s) rs) (each_apart rs) apart))
      | false ↦ λ misses. omega
          (arith, at_most_one rs first second (and_right (list_all (λ s. row_apart r s) rs) (each_apart rs) apart))
    ] refl

pub one_fits : (rs : List Row) (first second : ℕ) → each_apart rs ≡ true → fitting rs first second ≡ 1
one_fits rs first second apart = zero_or_one _ (at_most_one rs first second apart)

-- The halfwords of each operation are decoded to it.
use Rattle.std.proofs.Common.{◌≡◌, ◌≢◌, ℕ, ◌+◌, ◌-◌, ◌*◌, ◌/◌, ◌%◌, ◌^◌, ◌<◌, Bool, true, false, ◌&&◌, ◌||◌, List, [], ◌∷◌, ◌++◌, Option, Some, None, refl, sym, ap, ap₂, subst, ◌∙◌, arith, ne_eqb}
use Rattle.std.specs.Prelude.{bit_and, find, IfSome, ◌==◌}
use Rattle.std.specs.List.{list_all}
use Rattle.std.specs.Option.{option_map, option_map_or}
use Rattle.std.proofs.lemmas.Nat.Bits.{and_high_mask}
use Rattle.rp_base.specs.Word.{bit_number}
use Rattle.rp_base.specs.declared.op.Op.{Op}
use Rattle.rp_base.specs.declared.op.Op.TheVariants.{AddHigh, CmpHigh, MovHigh, Push, Pop, Bl, Undefined}
use Rattle.m0_beats.specs.Patterns.{Encoding, Halfword, runs_of, width_of}
use Rattle.m0_beats.specs.Instructions.{encoding_of}
use Rattle.thumb_rows.specs.Rows.{Entry, Half, begins_long, half_fits, operation_by_runs, row_of, table, test_of}
use Rattle.thumb_rows.proofs.Apart.{and_left, and_right, eq_of, fits_inside, half_apart, half_apart-false, half_pattern, has_patterns, inside, or_false, pattern_of}
use Rattle.thumb_rows.proofs.Laws.{begins, leading, listed, long_law, short_law}
use Rattle.thumb_words.specs.declared.halfwords.Code.{Code}
use Rattle.thumb_words.specs.Codes.{can_hold, code_by, code_of, coded, filled, IsCodeOf}
use Rattle.thumb_words.proofs.Filled.{fitted}

-- ---- the entry of an operation

-- an entry has the patterns of an encoding
abbrev is_entry : Encoding → Entry → Bool
is_entry e entry = option_map_or (λ k. has_patterns (test_of e.first) (option_map test_of e.second) (row_of entry.1 k)) entry.0 false

-- the operation of that entry
abbrev made_by : Encoding → List ℕ → Op
made_by e xs = option_map_or (λ entry. entry.1 xs) (find (is_entry e) table) Undefined

-- sixteen bits, behind which a second halfword stands exactly if they begin 11101, 11110 or 11111
abbrev tells_length : Halfword → Option Halfword → Bool
tells_length first None = (width_of first.pattern == 16) && list_all (λ n. half_apart (test_of first) (leading 11 n)) (29 ∷ 30 ∷ 31 ∷ [])
tells_length first (Some second) = (width_of first.pattern == 16) && inside (pattern_of (test_of first)) (pattern_of (leading 11 30))

-- the table has a row for an operation, and of its operands the row makes the operation
record IsRowOf (op : Op) (made : List ℕ → Op) (e : Encoding) : Type 0 where
  row : find (has_patterns (test_of e.first) (option_map test_of e.second)) listed ≡ Some (row_of made e)
  told : tells_length e.first e.second ≡ true
  makes : made (e.first.operands ++ option_map_or (λ h. h.operands) e.second []) ≡ op

abbrev HasRow : Op → Option Encoding → Type 0
HasRow op None = Unit {0}
HasRow op (Some e) = IsRowOf op (made_by e) e

eighths : (d : ℕ) → 8 * (d / 8) + d % 8 ≡ d
eighths d = omega arith

is_bit : (bit : Bool) → (bit_number bit == 1) ≡ bit
is_bit true = refl
is_bit false = refl

has_row : (op : Op) → HasRow op (encoding_of op)
has_row (AddHigh d m) = record { row = refl; told = refl; makes = ap (λ r. AddHigh r m) (eighths d) }
has_row (CmpHigh d m) = record { row = refl; told = refl; makes = ap (λ r. CmpHigh r m) (eighths d) }
has_row (MovHigh d m) = record { row = refl; told = refl; makes = ap (λ r. MovHigh r m) (eighths d) }
has_row (Push r l) = record { row = refl; told = refl; makes = ap (λ b. Push b l) (is_bit r) }
has_row (Pop r l) = record { row = refl; told = refl; makes = ap (λ b. Pop b l) (is_bit r) }
has_row (Bl s i j) = record {
  row = refl;
  told = refl;
  makes =
      ap (λ b. Bl b (i / 2 ^ 11 * 2 ^ 11 + i % 2 ^ 11) (2 * (j / 2) + j % 2)) (is_bit s) ∙ ap₂ (λ x y. Bl s x y) (omega arith) (omega arith);
}
has_row Undefined = tt
has_row op = record { row = refl; told = refl; makes = refl }

-- ---- how the halfwords begin

not_begun : (h : Half) (n w : ℕ) → w < 65536 → half_fits h w ≡ true → half_apart h (leading 11 n) ≡ true → w / 2 ^ 11 ≢ n
not_begun h n w small fits apart is = let never = half_apart-false h (leading 11 n) w fits (begins 11 n refl small is).fits in cc

begins_short : (h : Half) (w : ℕ) → w < 65536 → half_fits h w ≡ true
    → list_all (λ n. half_apart h (leading 11 n)) (29 ∷ 30 ∷ 31 ∷ []) ≡ true → begins_long w ≡ false
begins_short h w small fits apart =
    let after_29 = and_right (half_apart h (leading 11 29)) _ apart in
    let after_30 = and_right (half_apart h (leading 11 30)) _ after_29 in
    let not_29 = not_begun h 29 w small fits (and_left _ _ apart) in
    let not_30 = not_begun h 30 w small fits (and_left _ _ after_29) in
    let not_31 = not_begun h 31 w small fits (and_left _ _ after_30) in
    let start : ℕ = w / 2 ^ 11 % 32 in
    or_false _ _ (or_false _ _ (ne_eqb start 29 (λ e. not_29 (omega (arith, e)))) (ne_eqb start 30 (λ e. not_30 (omega (arith, e)))))
    (ne_eqb start 31 (λ e. not_31 (omega (arith, e))))

begins_with_second : (h : Half) (w : ℕ) → w < 65536 → half_fits h w ≡ true
    → inside (pattern_of h) (pattern_of (leading 11 30)) ≡ true → begins_long w ≡ true
begins_with_second h w small fits is =
    let bits : bit_and w (2 ^ 16 - 2 ^ 11) ≡ w / 2 ^ 11 * 2 ^ 11 = and_high_mask 16 11 (omega arith) w small in
    let top : bit_and w 63488 ≡ 61440 = fits_inside h.mask h.value 63488 61440 w (half_pattern h w fits)
    (eq_of _ _ (and_left (bit_and h.mask 63488 == 63488) _ is)) (eq_of _ _ (and_right (bit_and h.mask 63488 == 63488) _ is)) in
    let start : w / 2 ^ 11 ≡ 30 = omega (arith, top, bits) in
    ap (λ x. x % 32 == 29 || x % 32 == 30 || x % 32 == 31) start

-- ---- the law

record Given (test : Bool) (made code : Code) : Type 0 where
  fits : test ≡ true
  is : made ≡ code

given : (test : Bool) (made code : Code) → coded test made ≡ Some code → Given test made code
given true made code h = record { fits = refl; is = cc }
given false made code h = absurd cc

sixteen : (h : Halfword) (more : Bool) → filled h < 2 ^ width_of h.pattern → ((width_of h.pattern == 16) && more) ≡ true → filled h < 65536
sixteen h more small is = subst (λ n. filled h < 2 ^ n) (eq_of _ _ (and_left (width_of h.pattern == 16) more is)) small

decoded : (op : Op) (made : List ℕ → Op) (first : Halfword) (second : Option Halfword) (code : Code)
    → IsRowOf op made (record { first = first; second = second }) → code_by first second ≡ Some code → IsCodeOf op code
decoded op made first None code r h =
    let g = given (can_hold first) (record { first = filled first; second = None }) code h in
    let one = fitted first g.fits in
    subst (λ c. IsCodeOf op c) g.is (record {
      operation = λ second.
          short_law (operation_by_runs made (runs_of first.pattern) []) second one.fits r.row
          ∙ ap (λ xs. made (xs ++ [])) one.operands ∙ r.makes;
      long = begins_short (test_of first) (filled first) (sixteen first _ one.small r.told) one.fits.fits
          (and_right (width_of first.pattern == 16) _ r.told);
    })
decoded op made first (Some second) code r h =
    let g = given (can_hold first && can_hold second) (record { first = filled first; second = Some (filled second) }) code h in
    let one = fitted first (and_left (can_hold first) _ g.fits) in
    let two = fitted second (and_right (can_hold first) _ g.fits) in
    subst (λ c. IsCodeOf op c) g.is (record {
      operation =
          long_law (operation_by_runs made (runs_of first.pattern) (runs_of second.pattern)) one.fits two.fits r.row
          ∙ ap₂ (λ xs ys. made (xs ++ ys)) one.operands two.operands ∙ r.makes;
      long = begins_with_second (test_of first) (filled first) (sixteen first _ one.small r.told) one.fits.fits
          (and_right (width_of first.pattern == 16) _ r.told);
    })

by_row : (op : Op) (encoding : Option Encoding) (code : Code) → HasRow op encoding
    → option_map_or (λ e. code_by e.first e.second) encoding None ≡ Some code → IsCodeOf op code
by_row op None code has h = absurd cc
by_row op (Some e) code has h = decoded op (made_by e) e.first e.second code has h

pub codes_decode : (op : Op) (code : Code) → code_of op ≡ Some code → IsCodeOf op code
unfolding code_of
codes_decode op code h = by_row op (encoding_of op) code (has_row op) h

pub all_decode : (op : Op) (o : Option Code) → o ≡ code_of op → IfSome o (λ code. IsCodeOf op code)
all_decode op None h = tt
all_decode op (Some code) h = codes_decode op code (sym h)

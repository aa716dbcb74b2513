-- What follows from the table for a halfword of which some bits are known.
use Rattle.std.proofs.Common.{◌≡◌, ◌≢◌, ℕ, ◌+◌, ◌-◌, ◌*◌, ◌/◌, ◌%◌, ◌^◌, ◌<◌, ◌≤◌, Bool, true, false, List, [], ◌∷◌, Some, None, refl, sym, ap, ◌∙◌, arith, leb-true}
use Rattle.std.specs.Prelude.{◌==◌, ◌||◌, bit_and, filter_map, find, nat_le}
use Rattle.std.specs.List.{list_all}
use Rattle.std.specs.Option.{option_map}
use Rattle.std.proofs.lemmas.Nat.Bits.{and_high_mask}
use Rattle.std.proofs.lemmas.Nat.{shl-shr, and_block, and_mask, and_le_r}
use Rattle.thumb_rows.specs.Rows.{Half, Row, half_fits, row_fits, row_of, rows, table, operation_by, operation_of}
use Rattle.thumb_rows.proofs.Apart.{operation_by-found, rows_apart, has_patterns, half_apart, half_apart-false, second_apart, second_apart-false, or_false, and_both, and_left, and_right, not_of_false, not_true, eq_of, eqb_of, skipped}
use Rattle.rp_base.specs.declared.op.Op.{Op}
use Rattle.rp_base.specs.declared.op.Op.TheVariants.{Undefined}

-- the rows, as they compute
abbrev pub listed : List Row
listed = filter_map (λ entry. option_map (row_of entry.1) entry.0) table

-- ---- what is known of a halfword

-- a test fits it
pub record Fits (h : Half) (w : ℕ) : Type 0 where
  pub fits : half_fits h w ≡ true

-- the test of one pattern
abbrev pub only : ℕ → ℕ → Half
only mask value = record { mask = mask; value = value; left_out = [] }

-- a test that leaves one pattern more out
abbrev pub but : ℕ → ℕ → Half → Half
but mask value h = record { mask = h.mask; value = h.value; left_out = (mask, value) ∷ h.left_out }

-- the test that bits 15 to shift are those of a number
abbrev pub leading : ℕ → ℕ → Half
leading shift number = only (2 ^ 16 - 2 ^ shift) (number * 2 ^ shift)

pub has : (mask value : ℕ) {w : ℕ} → bit_and w mask ≡ value → Fits (only mask value) w
has mask value is = record { fits = and_both _ true (eqb_of _ _ is) refl }

unequal : (t : Bool) (a b : ℕ) → a ≢ b → (a == b) ≡ t → t ≡ false
unequal false a b other is = refl
unequal true a b other is = absurd (other (eq_of a b is))

pub lacks : (mask value : ℕ) {h : Half} {w : ℕ} → bit_and w mask ≢ value → Fits h w → Fits (but mask value h) w
lacks mask value {h} {w} other f = record {
  fits =
      and_both _ _ (and_left (bit_and w h.mask == h.value) _ f.fits)
      (not_of_false _
      (or_false _ _ (unequal _ _ _ other refl) (not_true _ (and_right (bit_and w h.mask == h.value) _ f.fits))));
}

any : (w : ℕ) → bit_and w 0 ≡ 0
any w = let most : bit_and w 0 ≤ 0 = and_le_r w 0 in omega arith

-- nothing is known
pub anything : {w : ℕ} → Fits (only 0 0) w
anything {w} = has 0 0 (any w)

pub high_bits : (shift w : ℕ) → nat_le shift 16 ≡ true → w < 65536 → bit_and w (2 ^ 16 - 2 ^ shift) ≡ w / 2 ^ shift * 2 ^ shift
high_bits shift w within small = and_high_mask 16 shift (leb-true shift 16 within) w small

-- how it begins
pub begins : (shift number : ℕ) {w : ℕ} → nat_le shift 16 ≡ true → w < 65536 → w / 2 ^ shift ≡ number →
    Fits (leading shift number) w
begins shift number {w} within small is = has _ _ (high_bits shift w within small ∙ ap (λ x. x * 2 ^ shift) is)

mul_cancel : (a b k : ℕ) → a * 2 ^ k ≡ b * 2 ^ k → a ≡ b
mul_cancel a b k e = sym (shl-shr a k) ∙ ap (λ x. x / 2 ^ k) e ∙ shl-shr b k

-- how it does not begin
pub without : (shift number : ℕ) {h : Half} {w : ℕ} → nat_le shift 16 ≡ true → w < 65536 → w / 2 ^ shift ≢ number →
    Fits h w → Fits (but (2 ^ 16 - 2 ^ shift) (number * 2 ^ shift) h) w
without shift number {h} {w} within small other f =
    lacks _ _ (λ e. other (mul_cancel _ _ shift (sym (high_bits shift w within small) ∙ e))) f

pub whole : (w : ℕ) → w < 65536 → bit_and w 0xFFFF ≡ w
whole w small =
    let all : bit_and w (2 ^ 16 - 1) ≡ w % 2 ^ 16 = and_mask w 16 in omega (arith, all)

-- which one it is, and is not
pub word : (number : ℕ) {w : ℕ} → w < 65536 → w ≡ number → Fits (only 0xFFFF number) w
word number {w} small is = has 0xFFFF number (whole w small ∙ is)

pub no_word : (number : ℕ) {h : Half} {w : ℕ} → w < 65536 → w ≢ number → Fits h w → Fits (but 0xFFFF number h) w
no_word number {h} {w} small other f = lacks 0xFFFF number (λ e. other (sym (whole w small) ∙ e)) f

-- bits 15 to 11 and bits 7 to 0 of a halfword, which a list of registers is tested by
pub list_bits : (w : ℕ) → w < 65536 → bit_and w 0xF8FF ≡ w / 2048 * 2048 + w % 256
list_bits w small =
    let high : ℕ = w / 256 in
    let low : ℕ = w % 256 in
    let parts : w ≡ high * 2 ^ 8 + low = omega arith in
    let below : low < 2 ^ 8 = omega arith in
    let above : high < 2 ^ 8 = omega arith in
    let split : bit_and (high * 2 ^ 8 + low)
    (0xF8 * 2 ^ 8 + 0xFF) ≡ bit_and high 0xF8 * 2 ^ 8 + bit_and low 0xFF = and_block 8 high 0xF8 low 0xFF below
    (omega arith) in
    let top : bit_and high (2 ^ 8 - 2 ^ 3) ≡ high / 2 ^ 3 * 2 ^ 3 = and_high_mask 8 3 (omega arith) high above in
    let bottom : bit_and low (2 ^ 8 - 1) ≡ low % 2 ^ 8 = and_mask low 8 in
    let whole : bit_and w 0xF8FF ≡ bit_and (high * 2 ^ 8 + low) 0xF8FF = ap (λ x. bit_and x 0xF8FF) parts in
    omega (arith, whole, split, top, bottom)

-- bits 15 to 8 and bits 3 to 0 of a halfword, which a hint is tested by
pub hint_bits : (w : ℕ) → w < 65536 → bit_and w 0xFF0F ≡ w / 256 * 256 + w % 16
hint_bits w small =
    let high : ℕ = w / 256 in
    let low : ℕ = w % 256 in
    let parts : w ≡ high * 2 ^ 8 + low = omega arith in
    let below : low < 2 ^ 8 = omega arith in
    let above : high < 2 ^ 8 = omega arith in
    let split : bit_and (high * 2 ^ 8 + low)
    (0xFF * 2 ^ 8 + 0x0F) ≡ bit_and high 0xFF * 2 ^ 8 + bit_and low 0x0F = and_block 8 high 0xFF low 0x0F below
    (omega arith) in
    let top : bit_and high (2 ^ 8 - 1) ≡ high % 2 ^ 8 = and_mask high 8 in
    let bottom : bit_and low (2 ^ 4 - 1) ≡ low % 2 ^ 4 = and_mask low 4 in
    let whole : bit_and w 0xFF0F ≡ bit_and (high * 2 ^ 8 + low) 0xFF0F = ap (λ x. bit_and x 0xFF0F) parts in
    omega (arith, whole, split, top, bottom)

-- ---- the row that fits

-- a row over the first halfword alone
pub short_law : (operation : ℕ → ℕ → Op) {h : Half} {first : ℕ} (second : ℕ) → Fits h first →
    find (has_patterns h None) listed ≡ Some (record { first = h; second = None; operation = operation }) →
    operation_of first second ≡ operation first second
unfolding operation_of rows
short_law operation {h} {first} second fits is = operation_by-found (has_patterns h None) rows
    (record { first = h; second = None; operation = operation }) first second rows_apart is
    (and_both _ true fits.fits refl)

pub long_law : (operation : ℕ → ℕ → Op) {h g : Half} {first second : ℕ} → Fits h first → Fits g second →
    find (has_patterns h (Some g)) listed ≡ Some (record { first = h; second = Some g; operation = operation }) →
    operation_of first second ≡ operation first second
unfolding operation_of rows
long_law operation {h} {g} {first} {second} fits also is = operation_by-found (has_patterns h (Some g)) rows
    (record { first = h; second = Some g; operation = operation }) first second rows_apart is
    (and_both _ _ fits.fits also.fits)

-- what the halfwords are whose bits 15 to shift are those of a number
abbrev pub Begins : ℕ → ℕ → (ℕ → Op) → Type 0
Begins shift number op = (first second : ℕ) → first < 65536 → first / 2 ^ shift ≡ number →
    operation_of first second ≡ op first

-- a row whose fixed bits are the leading ones
pub leading_law : (shift number : ℕ) (op : ℕ → Op) → nat_le shift 16 ≡ true → find
    (has_patterns (leading shift number) None) listed ≡ Some
    (record { first = leading shift number; second = None; operation = λ first second. op first }) →
    Begins shift number op
leading_law shift number op within is first second small starts =
    short_law (λ first second. op first) second (begins shift number within small starts) is

-- ---- no row fits

missed : (b : Bool) (r : Row) (h : Half) (first second : ℕ) → half_fits h first ≡ true → half_apart h r.first ≡ true →
    row_fits r first second ≡ b → b ≡ false
missed false r h first second fits apart is = refl
missed true r h first second fits apart is = let never = half_apart-false h r.first first fits
    (and_left (half_fits r.first first) _ is) in cc

none_of : (rs : List Row) (h : Half) (first second : ℕ) → half_fits h first ≡ true → list_all
    (λ r. half_apart h r.first) rs ≡ true → operation_by rs first second ≡ Undefined
none_of [] h first second fits apart = refl
none_of (r ∷ rs) h first second fits apart =
    skipped r rs first second (missed _ r h first second fits (and_left _ _ apart) refl) ∙ none_of rs h first second fits
    (and_right (half_apart h r.first) _ apart)

-- a first halfword that fits a test which is apart from each row's
pub undefined_law : {h : Half} {first : ℕ} (second : ℕ) → Fits h first → list_all (λ r. half_apart h r.first) listed ≡ true →
    operation_of first second ≡ Undefined
unfolding operation_of rows
undefined_law {h} {first} second fits apart = none_of rows h first second fits.fits apart

abbrev pub pair_apart : Half → Half → Row → Bool
pair_apart h g r = half_apart h r.first || second_apart (Some g) r.second

pair_missed : (b c : Bool) (r : Row) (h g : Half) (first second : ℕ) → half_fits h first ≡ true →
    half_fits g second ≡ true → half_apart h r.first ≡ c → pair_apart h g r ≡ true → row_fits r first second ≡ b →
    b ≡ false
pair_missed false c r h g first second fits also near apart is = refl
pair_missed true true r h g first second fits also near apart is = let never = half_apart-false h r.first first fits
    (and_left (half_fits r.first first) _ is) in cc
pair_missed true false r h g first second fits also near apart is =
    let never : second_apart (Some g) r.second ≡ false = second_apart-false (Some g) r.second second also
    (and_right (half_fits r.first first) _ is) in
    let neither = or_false _ _ near never in cc

none_of_pair : (rs : List Row) (h g : Half) (first second : ℕ) → half_fits h first ≡ true →
    half_fits g second ≡ true → list_all (pair_apart h g) rs ≡ true → operation_by rs first second ≡ Undefined
none_of_pair [] h g first second fits also apart = refl
none_of_pair (r ∷ rs) h g first second fits also apart =
    skipped r rs first second
    (pair_missed _ _ r h g first second fits also refl
    (and_left (pair_apart h g r) (list_all (pair_apart h g) rs) apart) refl)
    ∙ none_of_pair rs h g first second fits also (and_right (pair_apart h g r) (list_all (pair_apart h g) rs) apart)

-- two halfwords that fit tests of which one is apart from each row's
pub pair_undefined : {h g : Half} {first second : ℕ} → Fits h first → Fits g second →
    list_all (pair_apart h g) listed ≡ true → operation_of first second ≡ Undefined
unfolding operation_of rows
pair_undefined {h} {g} {first} {second} fits also apart = none_of_pair rows h g first second fits.fits also.fits apart

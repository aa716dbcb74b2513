-- Parts that are quiet, and what is passed by.
use Rattle.std.proofs.Common.{◌≡◌, ℕ, zero, suc, ◌+◌, ◌-◌, ◌%◌, ◌<◌, ◌≤◌, nat_le, List, [], ◌∷◌, ◌++◌, length, map, take, drop, slice_index, inl, inr, refl, sym, ap, ◌∙◌, arith}
use Rattle.std.proofs.Math.Nat.{eq-or-lt_of_le}
use Rattle.std.proofs.lemmas.Bool.Decides.{nat_tests}
use Rattle.std.proofs.lemmas.Nat.Bits.{bit_at-lt}
use Rattle.std.proofs.lemmas.List.{append-nil, drop_all, take_all}
use Rattle.std.specs.Int.{bit_at}
use Rattle.lane_look.specs.Quiet.{IsDeviceQuiet, device_after, device_step}
use Rattle.lane_look.specs.Times.{times}
use Rattle.lane_look.proofs.Quiet.{both_after, both_quiet, quiet_less, quiet_rest}
use Rattle.lane_look.proofs.Times.{times_more, times_rest}
use Rattle.board_parts.specs.Button.{button}
use Rattle.board_parts.specs.Parts.{Placed, part_device, parts_device, placed_at, words_of}
use Rattle.board_parts.specs.Shift.{clocked, shift, shifted}

-- ---- one part

-- a cycle more
pub one_more : (p : Placed) (pads first k : ℕ) (before state after : List ℕ) → state ≡ device_after (part_device p) pads first k before
    → after ≡ p.part.after_step p.pins state (first + k) pads → after ≡ device_after (part_device p) pads first (k + 1) before
one_more p pads first k before state after so_far e =
    e ∙ ap (device_step (part_device p) pads (first + k)) so_far ∙ sym (times_more (device_step (part_device p) pads) first k (k + 1) before refl)

-- what holds up to a number and for the next one
pub up_to : (count k : ℕ) (words : ℕ → ℕ) → ((j : ℕ) → j ≤ k → words j ≡ count) → words (k + 1) ≡ count → (j : ℕ) → j ≤ k + 1 → words j ≡ count
up_to count k words so_far next j le = elim (eq-or-lt_of_le le) as (λ t. words j ≡ count) [
  | inl e ↦ ap words e ∙ next
  | inr lt ↦ so_far j (omega (arith, lt))
]

-- a part whose state no cycle changes
pub still_after : (p : Placed) (pads first n : ℕ) (state : List ℕ) → ((c : ℕ) → p.part.after_step p.pins state c pads ≡ state) → device_after (part_device p) pads first n state ≡ state
still_after p pads first n state still = times_rest (device_step (part_device p) pads) first n state still

-- ---- parts side by side

none_quiet : (state : List ℕ) (cycle pads n : ℕ) → length state ≡ 0 → IsDeviceQuiet (parts_device []) state cycle pads n
none_quiet [] cycle pads n fits = quiet_rest (parts_device []) [] cycle pads n refl (λ c. refl) (λ c. refl)
none_quiet (word ∷ state) cycle pads n fits = absurd (omega (arith, fits))

none_after : (state : List ℕ) (pads first n : ℕ) → length state ≡ 0 → device_after (parts_device []) pads first n state ≡ state
none_after [] pads first n fits = times_rest (device_step (parts_device []) pads) first n [] (λ c. refl)
none_after (word ∷ state) pads first n fits = absurd (omega (arith, fits))

-- no parts
pub no_parts_quiet : {P : Type 0} (view : P → Placed) (list : List P) (state : List ℕ) (cycle pads n : ℕ) → length list < 1 → length state ≡ words_of (map view list)
    → IsDeviceQuiet (parts_device (map view list)) state cycle pads n
no_parts_quiet view [] state cycle pads n none fits = none_quiet state cycle pads n fits
no_parts_quiet view (p ∷ list) state cycle pads n none fits = absurd (omega (arith, none))

pub no_parts_after : {P : Type 0} (view : P → Placed) (list : List P) (state : List ℕ) (pads first n : ℕ) → length list < 1 → length state ≡ words_of (map view list)
    → state ≡ device_after (parts_device (map view list)) pads first n state
no_parts_after view [] state pads first n none fits = sym (none_after state pads first n fits)
no_parts_after view (p ∷ list) state pads first n none fits = absurd (omega (arith, none))

-- a part before others, by the words of each
pub more_quiet : (p : Placed) (parts all : List Placed) (state own others : List ℕ) (cycle pads i j n : ℕ) → all ≡ p ∷ parts → own ≡ take p.part.words state → others ≡ drop p.part.words state
    → IsDeviceQuiet (part_device p) own cycle pads i → IsDeviceQuiet (parts_device parts) others cycle pads j → n ≤ i → n ≤ j → IsDeviceQuiet (parts_device all) state cycle pads n
more_quiet p parts all state own others cycle pads i j n e f g q r le lt =
    let both = both_quiet (part_device p) (parts_device parts) state cycle pads n
    (quiet_less (part_device p) _ cycle pads i n (rw f at q) le) (quiet_less (parts_device parts) _ cycle pads j n (rw g at r) lt) in
    let whole : IsDeviceQuiet (parts_device (p ∷ parts)) state cycle pads n = record { drives = both.drives; words = both.words } in
    rw e whole

pub more_after : (p : Placed) (parts all : List Placed) (state own others own' others' : List ℕ) (pads first n : ℕ) → all ≡ p ∷ parts → own ≡ take p.part.words state → others ≡ drop p.part.words state
    → own' ≡ device_after (part_device p) pads first n own → ((k : ℕ) → k ≤ n → length (device_after (part_device p) pads first k own) ≡ p.part.words)
    → others' ≡ device_after (parts_device parts) pads first n others → own' ++ others' ≡ device_after (parts_device all) pads first n state
more_after p parts all state own others own' others' pads first n e f g h words i =
    rw (e, h, i, f, g) (sym (both_after (part_device p) (parts_device parts) pads first n state (rw f at words)))

-- one part alone
pub one_quiet : (p : Placed) (all : List Placed) (state : List ℕ) (cycle pads n : ℕ) → all ≡ p ∷ [] → length state ≡ words_of all
    → IsDeviceQuiet (part_device p) state cycle pads n → IsDeviceQuiet (parts_device all) state cycle pads n
one_quiet p all state cycle pads n e fits q =
    let le : length state ≤ p.part.words = omega (arith, fits, ap words_of e) in
    more_quiet p [] all state state [] cycle pads n n n e (sym (take_all p.part.words state le)) (sym (drop_all p.part.words state le)) q (none_quiet [] cycle pads n refl)
    (omega arith) (omega arith)

pub one_after : (p : Placed) (all : List Placed) (state state' : List ℕ) (pads first n : ℕ) → all ≡ p ∷ [] → length state ≡ words_of all
    → state' ≡ device_after (part_device p) pads first n state → ((k : ℕ) → k ≤ n → length (device_after (part_device p) pads first k state) ≡ p.part.words)
    → state' ≡ device_after (parts_device all) pads first n state
one_after p all state state' pads first n e fits after words =
    let le : length state ≤ p.part.words = omega (arith, fits, ap words_of e) in
    sym (append-nil state') ∙ more_after p [] all state state [] state' [] pads first n e (sym (take_all p.part.words state le)) (sym (drop_all p.part.words state le)) after words
    (sym (none_after [] pads first n refl))

-- ---- a button and a wire

-- the half of a turn in which a cycle is
half : (cycle k : ℕ) → k < 50000 - cycle % 50000 → nat_le 50000 ((cycle + k) % 100000) ≡ nat_le 50000 (cycle % 100000)
half cycle k lt = grind (arith, nat_tests)

pub button_quiet : (pins state : List ℕ) (cycle pads : ℕ) → length state ≡ 0 → IsDeviceQuiet (part_device (placed_at pins button)) state cycle pads (50000 - cycle % 50000)
button_quiet pins state cycle pads fits =
    let d = part_device (placed_at pins button) in
    record {
      drives = λ k lt. ap (λ s. d.wires s (cycle + k) pads) (still_after (placed_at pins button) pads cycle k state (λ c. refl)) ∙ rw (half cycle k lt) refl;
      words = λ k lt. ap length (still_after (placed_at pins button) pads cycle k state (λ c. refl)) ∙ fits;
    }

-- ---- a shift register

settled : (register clock bit : ℕ) → clock < 2 → shifted register clock clock bit ≡ register
settled register zero bit low = refl
settled register (suc zero) bit low = refl
settled register (suc (suc clock)) bit low = absurd (omega (arith, low))

shift_settles : (pins state : List ℕ) (c pads : ℕ) → clocked pins (clocked pins state c pads) c pads ≡ clocked pins state c pads
shift_settles pins state c pads =
    let clock = bit_at pads (slice_index pins 0) in
    ap (λ x. x ∷ clock ∷ []) (settled _ clock _ (bit_at-lt pads (slice_index pins 0)))

-- after the first cycle no other one changes anything
pub shift_after : (pins state : List ℕ) (pads first n : ℕ) → 0 < n → clocked pins state first pads ≡ device_after (part_device (placed_at pins shift)) pads first n state
unfolding times
shift_after pins state pads first zero some = absurd (omega arith)
shift_after pins state pads first (suc zero) some = refl
shift_after pins state pads first (suc (suc n)) some =
    sym (shift_settles pins state first pads) ∙ ap (λ s. clocked pins s first pads) (shift_after pins state pads first (suc n) (omega arith))

pub shift_words : (pins state : List ℕ) (pads first k : ℕ) → length state ≡ 2 → length (device_after (part_device (placed_at pins shift)) pads first k state) ≡ 2
unfolding times
shift_words pins state pads first zero fits = fits
shift_words pins state pads first (suc k) fits = refl

pub shift_quiet : (pins state : List ℕ) (cycle pads n : ℕ) → length state ≡ 2 → slice_index state 1 ≡ bit_at pads (slice_index pins 0) → IsDeviceQuiet (part_device (placed_at pins shift)) state cycle pads n
shift_quiet pins (register ∷ before ∷ []) cycle pads n fits e =
    let clock = bit_at pads (slice_index pins 0) in
    let still : (c : ℕ) → clocked pins (register ∷ before ∷ []) c pads ≡ register ∷ before ∷ [] =
    λ c. rw e (ap (λ x. x ∷ clock ∷ []) (settled register clock _ (bit_at-lt pads (slice_index pins 0)))) in
    quiet_rest (part_device (placed_at pins shift)) (register ∷ before ∷ []) cycle pads n refl still (λ c. refl)
shift_quiet pins [] cycle pads n fits e = absurd (omega (arith, fits))
shift_quiet pins (one ∷ []) cycle pads n fits e = absurd (omega (arith, fits))
shift_quiet pins (one ∷ two ∷ three ∷ more) cycle pads n fits e = absurd (omega (arith, fits))

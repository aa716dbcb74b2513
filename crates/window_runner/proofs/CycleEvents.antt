-- The events of a cycle, part by part.
use Rattle.window_runner.proofs.Shared.{Bool, List, Mark, None, Option, Some, [], all_shown, ap, arith, bit_xor, drop, drop_all, drop_more, events_by, false, get_or, inl, inr, leb_tells, length, map, refl, shown_as, slice_get, subst, suc, sym, true, w32, zero, ℕ, ◌*◌, ◌++◌, ◌+◌, ◌-◌, ◌/◌, ◌<◌, ◌==◌, ◌^◌, ◌∙◌, ◌∷◌, ◌≡◌, ◌≤◌}
use Rattle.std.specs.Int.{bit_at}
use Rattle.std.specs.Int.Bits.{xor_self}
use Rattle.std.specs.List.{filter, range_with_len}
use Rattle.std.proofs.Math.Nat.{lt-div-mul-add}
use Rattle.std.specs.Int.Count.{count_trailing_zeros}
use Rattle.std.proofs.lemmas.Nat.{pow_pos, xor_lt}
use Rattle.std.proofs.lemmas.Nat.Bits.{bit_at_above, bit_at-trailing_zeros}
use Rattle.std.proofs.lemmas.Option.{slice_get_within, get_or_from_slice_get}
use Rattle.rp_base.specs.Word.{has_bit}
use Rattle.trace_text.specs.declared.event.Event.{Event as Shown}
use Rattle.rp_machine.specs.Events.{Event, bytes_of, changes_of, events_of}
use Rattle.rp_machine.specs.Events.Event.{Byte, Pin}
use Rattle.window_runner.specs.Parts.{byte_of, change_of}

-- events as a tape takes them, one after another
pub shown_none : all_shown [] ≡ []
unfolding all_shown
shown_none = refl

pub shown_both : (xs ys : List Event) → all_shown (xs ++ ys) ≡ all_shown xs ++ all_shown ys
unfolding all_shown
shown_both [] ys = refl
shown_both (x ∷ xs) ys = ap (λ r. shown_as x ∷ r) (shown_both xs ys)

pub shown_one : (x : Event) → shown_as x ∷ [] ≡ all_shown (x ∷ [])
unfolding all_shown
shown_one x = refl

-- ---- bytes

pub bytes_both : (cycle : ℕ) (bytes : List (Option ℕ)) → length bytes ≡ 2
    → all_shown (byte_of cycle 0 (get_or bytes 0 None)) ++ all_shown (byte_of cycle 1 (get_or bytes 1 None)) ≡ all_shown (bytes_of cycle 0 bytes)
bytes_both cycle [] two = absurd (omega (arith, two))
bytes_both cycle (x ∷ []) two = absurd (omega (arith, two))
bytes_both cycle (x ∷ y ∷ z ∷ zs) two = absurd (omega (arith, two))
bytes_both cycle (x ∷ y ∷ []) two = sym (shown_both (byte_of cycle 0 x) (byte_of cycle 1 y)) ∙ ap all_shown (joined x y)
  where
    joined : (x y : Option ℕ) → byte_of cycle 0 x ++ byte_of cycle 1 y ≡ bytes_of cycle 0 (x ∷ y ∷ [])
    joined None None = refl
    joined None (Some b) = refl
    joined (Some a) None = refl
    joined (Some a) (Some b) = refl

pub no_byte : (cycle uart : ℕ) (byte : Option ℕ) → byte ≡ None → all_shown (byte_of cycle uart byte) ≡ []
no_byte cycle uart byte none = ap (λ b. all_shown (byte_of cycle uart b)) none ∙ shown_none

pub one_byte : (cycle uart : ℕ) (byte : Option ℕ) (sent : ℕ) → byte ≡ Some sent → shown_as (Byte cycle uart sent) ∷ [] ≡ all_shown (byte_of cycle uart byte)
one_byte cycle uart byte sent some = shown_one (Byte cycle uart sent) ∙ ap (λ b. all_shown (byte_of cycle uart b)) (sym some)

-- ---- changes

pub no_change : (cycle changed after pin n : ℕ) → n ≡ pin → has_bit changed n ≡ false → all_shown (change_of cycle changed after pin) ≡ []
no_change cycle changed after pin n same low =
    let here : has_bit changed pin ≡ false = subst (λ (k : ℕ). has_bit changed k ≡ false) same low in rw here shown_none

pub one_change : (cycle changed after pin n k : ℕ) (level : Bool) → n ≡ pin → k ≡ pin → has_bit changed n ≡ true → level ≡ has_bit after k
    → shown_as (Pin cycle pin level) ∷ [] ≡ all_shown (change_of cycle changed after pin)
one_change cycle changed after pin n k level same again high is =
    let here : has_bit changed pin ≡ true = subst (λ (x : ℕ). has_bit changed x ≡ true) same high in
    let now : level ≡ has_bit after pin = is ∙ ap (has_bit after) again in
    rw (here, now) (shown_one (Pin cycle pin (has_bit after pin)))

-- those of the pins from one on
abbrev pub changes_from : ℕ → ℕ → ℕ → ℕ → ℕ → List Event
changes_from cycle changed after pin count = map (λ p. Pin cycle p (has_bit after p)) (filter (has_bit changed) (range_with_len pin count))

unfoldable pub shown_from : ℕ → ℕ → ℕ → ℕ → ℕ → List Shown
shown_from cycle changed after pin count = all_shown (changes_from cycle changed after pin count)

pub from_first : (cycle before after : ℕ) → all_shown (changes_of cycle before after) ≡ shown_from cycle (bit_xor before after) after 0 30
unfolding shown_from
from_first cycle before after = refl

from_none : (cycle changed after pin : ℕ) → shown_from cycle changed after pin 0 ≡ []
unfolding shown_from
from_none cycle changed after pin = shown_none

pub no_changes : (cycle before after : ℕ) → bit_xor before after ≡ 0 → all_shown (changes_of cycle before after) ≡ []
no_changes cycle before after same = ap (λ x. all_shown (changes_from cycle x after 0 30)) same ∙ shown_none

from_on : (cycle changed after pin count : ℕ) → shown_from cycle changed after pin (suc count) ≡ all_shown (change_of cycle changed after pin) ++ shown_from cycle changed after (pin + 1) count
unfolding shown_from
from_on cycle changed after pin count = elim (has_bit changed pin) as (λ b. has_bit changed pin ≡ b → all_shown (changes_from cycle changed after pin (suc count)) ≡ all_shown (change_of cycle changed after pin) ++ all_shown (changes_from cycle changed after (pin + 1) count)) [
  | true ↦ λ e. rw e (shown_both (Pin cycle pin (has_bit after pin) ∷ []) (changes_from cycle changed after (pin + 1) count))
  | false ↦ λ e. rw e (shown_both [] (changes_from cycle changed after (pin + 1) count))
] refl

-- one pin more of those that are left
pub from_step : (cycle changed after pin : ℕ) → pin < 30 → shown_from cycle changed after pin (30 - pin) ≡ all_shown (change_of cycle changed after pin) ++ shown_from cycle changed after (pin + 1) (30 - (pin + 1))
from_step cycle changed after pin lt =
    let e : 30 - pin ≡ suc (30 - (pin + 1)) = omega (arith, lt) in
    ap (λ n. shown_from cycle changed after pin n) e ∙ from_on cycle changed after pin (30 - (pin + 1))

-- no pin is left
pub from_end : (cycle changed after pin : ℕ) → 30 ≤ pin → shown_from cycle changed after pin (30 - pin) ≡ []
from_end cycle changed after pin le = let last : 30 - pin ≡ 0 = omega (arith, le) in ap (λ n. shown_from cycle changed after pin n) last ∙ from_none cycle changed after pin

-- a pin below the lowest that changed is told nothing of
unchanged : (cycle changed after pin : ℕ) → bit_at changed pin ≡ 0 → all_shown (change_of cycle changed after pin) ≡ []
unchanged cycle changed after pin low = no_change cycle changed after pin pin refl (ap (λ b. b == 1) low)

passed_over : (cycle changed after pin : ℕ) → bit_at changed pin ≡ 0
    → shown_from cycle changed after pin (30 - pin) ≡ shown_from cycle changed after (pin + 1) (30 - (pin + 1))
passed_over cycle changed after pin low = elim (leb_tells 30 pin) [
  | inl high ↦ from_end cycle changed after pin high.1 ∙ sym (from_end cycle changed after (pin + 1) (let le = high.1 in omega (arith, le)))
  | inr low' ↦ from_step cycle changed after pin low'.1 ∙ ap (λ (xs : List Shown). xs ++ shown_from cycle changed after (pin + 1) (30 - (pin + 1))) (unchanged cycle changed after pin low)
]

pub from_lowest : (cycle changed after pin : ℕ) → ((i : ℕ) → i < pin → bit_at changed i ≡ 0)
    → shown_from cycle changed after 0 30 ≡ shown_from cycle changed after pin (30 - pin)
from_lowest cycle changed after zero low = refl
from_lowest cycle changed after (suc pin) low =
    from_lowest cycle changed after pin (λ i lt. low i (omega (arith, lt)))
    ∙ passed_over cycle changed after pin (low pin (omega arith))
    ∙ ap (λ n. shown_from cycle changed after n (30 - n)) (let next : pin + 1 ≡ suc pin = omega arith in next)

-- the pins from the lowest that changed on
positive : (n : ℕ) → (n ≡ 0 → ⊥) → 0 < n
positive zero h = absurd (h refl)
positive (suc n) h = omega arith

pub lowest_first : (cycle before after : ℕ) → before < 2 ^ 32 → after < 2 ^ 32 → (bit_xor before after ≡ 0 → ⊥)
    → all_shown (changes_of cycle before after)
    ≡ shown_from cycle (bit_xor before after) after (count_trailing_zeros 32 (bit_xor before after)) (30 - count_trailing_zeros 32 (bit_xor before after))
lowest_first cycle before after b a some =
    let changed = bit_xor before after in
    from_first cycle before after
    ∙ from_lowest cycle changed after (count_trailing_zeros 32 changed)
    (bit_at-trailing_zeros w32 changed (positive changed some) (xor_lt 32 before after b a)).2

-- no pin from one on has changed
none_from : (cycle changed after pin n : ℕ) → ((i : ℕ) → pin ≤ i → bit_at changed i ≡ 0) → shown_from cycle changed after pin n ≡ []
none_from cycle changed after pin zero low = from_none cycle changed after pin
none_from cycle changed after pin (suc n) low =
    from_on cycle changed after pin n
    ∙ ap (λ (xs : List Shown). xs ++ shown_from cycle changed after (pin + 1) n) (unchanged cycle changed after pin (low pin (omega arith)))
    ∙ none_from cycle changed after (pin + 1) n (λ i le. low i (omega (arith, le)))

nothing_more : (m : ℕ) → 0 * m + m ≡ m
nothing_more m = omega arith

below : (n k : ℕ) → n / 2 ^ k ≡ 0 → n < 2 ^ k
below n k e = subst (λ (m : ℕ). n < m) (ap (λ (q : ℕ). q * 2 ^ k + 2 ^ k) e ∙ nothing_more (2 ^ k)) (lt-div-mul-add {a = n} {b = 2 ^ k} (pow_pos k))

pub none_left : (cycle changed after pin k : ℕ) → k ≡ pin → changed / 2 ^ k ≡ 0 → shown_from cycle changed after pin (30 - pin) ≡ []
none_left cycle changed after pin k same e =
    none_from cycle changed after pin (30 - pin)
    (λ i le. bit_at_above changed k i (below changed k e) (let high : k ≤ i = omega (arith, same, le) in high))

-- bytes first, then changes
pub events_both : (cycle before : ℕ) (mark : Mark) → all_shown (bytes_of cycle 0 mark.uart) ++ all_shown (changes_of cycle before mark.pads) ≡ all_shown (events_of cycle before mark)
unfolding events_of
events_both cycle before mark = sym (shown_both (bytes_of cycle 0 mark.uart) (changes_of cycle before mark.pads))

pub no_events : (cycle before : ℕ) (mark : Mark) → mark.uart ≡ None ∷ None ∷ [] → before ≡ mark.pads → all_shown (events_of cycle before mark) ≡ []
no_events cycle before mark none same =
    let bytes : all_shown (bytes_of cycle 0 mark.uart) ≡ [] = ap (λ (b : List (Option ℕ)). all_shown (bytes_of cycle 0 b)) none ∙ shown_none in
    let pads : bit_xor before mark.pads ≡ 0 = ap (λ (n : ℕ). bit_xor n mark.pads) same ∙ xor_self mark.pads in
    sym (events_both cycle before mark) ∙ (ap (λ (xs : List Shown). xs ++ all_shown (changes_of cycle before mark.pads)) bytes ∙ no_changes cycle before mark.pads pads)

-- ---- marks

-- those of the marks from an index on
unfoldable pub shown_behind : ℕ → ℕ → List Mark → ℕ → List Shown
shown_behind cycle before marks index = all_shown (events_by (cycle + index) before (drop index marks))

pub behind_first : (cycle before : ℕ) (marks : List Mark) → all_shown (events_by cycle before marks) ≡ shown_behind cycle before marks 0
unfolding shown_behind
behind_first cycle before marks = let same : cycle + 0 ≡ cycle = omega arith in ap (λ n. all_shown (events_by n before marks)) (sym same)

next_mark : (marks : List Mark) (index : ℕ) (mark : Mark) → slice_get marks index ≡ Some mark → drop index marks ≡ mark ∷ drop (index + 1) marks
next_mark marks index mark e =
    drop_more marks index mark (slice_get_within marks index mark e)
    ∙ ap (λ m. m ∷ drop (index + 1) marks) (get_or_from_slice_get marks index mark mark e)

-- one more of those that are left
pub behind_step : (cycle before : ℕ) (marks : List Mark) (index n : ℕ) (mark : Mark) → n ≡ index → slice_get marks index ≡ Some mark
    → shown_behind cycle before marks index ≡ all_shown (events_of (cycle + n) before mark) ++ shown_behind cycle mark.pads marks (index + 1)
unfolding shown_behind
behind_step cycle before marks index n mark same e =
    let next : cycle + index + 1 ≡ cycle + (index + 1) = omega arith in
    ap (λ ms. all_shown (events_by (cycle + index) before ms)) (next_mark marks index mark e)
    ∙ shown_both (events_of (cycle + index) before mark) (events_by (cycle + index + 1) mark.pads (drop (index + 1) marks))
    ∙ ap (λ n. all_shown (events_of (cycle + index) before mark) ++ all_shown (events_by n mark.pads (drop (index + 1) marks))) next
    ∙ ap (λ k. all_shown (events_of (cycle + k) before mark) ++ all_shown (events_by (cycle + (index + 1)) mark.pads (drop (index + 1) marks))) (sym same)

-- none is left
pub behind_end : (cycle before : ℕ) (marks : List Mark) (index : ℕ) → length marks ≤ index → shown_behind cycle before marks index ≡ []
unfolding shown_behind
behind_end cycle before marks index le = ap (λ ms. all_shown (events_by (cycle + index) before ms)) (drop_all index marks le) ∙ shown_none

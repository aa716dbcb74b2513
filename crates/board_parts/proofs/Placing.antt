-- Pins that a part is attached to, and parts that wirings name.
use Rattle.std.proofs.Common.{◌≡◌, ℕ, zero, suc, ◌+◌, ◌≤◌, ◌==◌, nat_le, nat_lt, Bool, true, false, ◌&&◌, List, [], ◌∷◌, ◌++◌, Option, Some, None, length, map, get_or, refl, sym, ap, ◌∙◌, subst, arith, inl, inr, append-nil}
use Rattle.std.specs.List.{list_all}
use Rattle.std.proofs.lemmas.Bool.{eqb-true, leb-true}
use Rattle.std.proofs.lemmas.Bool.Decides.{eqb_tells}
use Rattle.std.proofs.lemmas.List.Folds.{list_all-append}
use Rattle.board_parts.specs.Part.{PartMeaning, are_pins, all_different}
use Rattle.board_parts.specs.Parts.{Placed, all_placed, words_of}
use Rattle.board_parts.specs.Wiring.{Wired, all_fit, all_words, counts_of, fits_where, pins_for, placed_by, placed_from, placed_where}

-- ---- truth values

and_left : (a b : Bool) → (a && b) ≡ true → a ≡ true
and_left true b h = refl
and_left false b h = h

and_right : (a b : Bool) → (a && b) ≡ true → b ≡ true
and_right true b h = h
and_right false b h = cc

both : (a b : Bool) → a ≡ true → b ≡ true → (a && b) ≡ true
both true b h i = i
both false b h i = h

-- ---- pins

low : (pins : List ℕ) (k : ℕ) → list_all (λ pin. nat_le pin 29) pins ≡ true → get_or pins k 0 ≤ 29
low [] k h = omega arith
low (pin ∷ pins) zero h = leb-true pin 29 (and_left (nat_le pin 29) (list_all (λ p. nat_le p 29) pins) h)
low (pin ∷ pins) (suc k) h = low pins k (and_right (nat_le pin 29) (list_all (λ p. nat_le p 29) pins) h)

-- a part has as many pins as it is to have
pub pins_long : (count : ℕ) (pins : List ℕ) → are_pins count pins ≡ true → length pins ≡ count
pins_long count pins h = eqb-true (length pins) count (and_left (length pins == count) (list_all (λ pin. nat_le pin 29) pins && all_different pins) h)

-- each of its pins is at most 29
pub pin_low : (count : ℕ) (pins : List ℕ) (k : ℕ) → are_pins count pins ≡ true → get_or pins k 0 ≤ 29
pin_low count pins k h =
    let all = list_all (λ pin. nat_le pin 29) pins in
    low pins k (and_left all (all_different pins) (and_right (length pins == count) (all && all_different pins) h))

-- ---- what wirings name

-- whether the pins that are named for parts from an index on, which have so many, are theirs
abbrev pub fit_from : ℕ → List ℕ → List Wired → Bool
fit_from index [] wirings = true
fit_from index (count ∷ counts) wirings = fits_where count (pins_for index wirings) && fit_from (index + 1) counts wirings

named_fit : (counts : List ℕ) (wirings : List Wired) (index : ℕ) → all_fit counts wirings ≡ true → fits_where (get_or counts index 0) (pins_for index wirings) ≡ true
named_fit counts [] index h = refl
named_fit counts (w ∷ wirings) index h =
    let here = nat_lt w.index (length counts) && are_pins (get_or counts w.index 0) w.pins in
    let own = and_right (nat_lt w.index (length counts)) (are_pins (get_or counts w.index 0) w.pins) (and_left here (all_fit counts wirings) h) in
    let rest = named_fit counts wirings index (and_right here (all_fit counts wirings) h) in
    elim (eqb_tells w.index index) as (λ tells. fits_where (get_or counts index 0) (pins_for index (w ∷ wirings)) ≡ true) [
      | inl same ↦ rw same.0 (subst (λ i. are_pins (get_or counts i 0) w.pins ≡ true) same.1 own)
      | inr other ↦ rw other.0 rest
    ]

each_fits : (wirings : List Wired) (counts : List ℕ) (index : ℕ)
    → ((k : ℕ) → fits_where (get_or counts k 0) (pins_for (index + k) wirings) ≡ true) → fit_from index counts wirings ≡ true
each_fits wirings [] index h = refl
each_fits wirings (count ∷ counts) index h =
    let first : fits_where count (pins_for index wirings) ≡ true = subst (λ i. fits_where count (pins_for i wirings) ≡ true) (omega arith) (h 0) in
    let next : (k : ℕ) → fits_where (get_or counts k 0) (pins_for (index + 1 + k) wirings) ≡ true =
    λ k. subst (λ i. fits_where (get_or counts k 0) (pins_for i wirings) ≡ true) (omega arith) (h (suc k)) in
    both (fits_where count (pins_for index wirings)) (fit_from (index + 1) counts wirings) first (each_fits wirings counts (index + 1) next)

-- where each wiring fits its part, each part's wiring fits it
pub all_fit_first : (counts : List ℕ) (wirings : List Wired) → all_fit counts wirings ≡ true → fit_from 0 counts wirings ≡ true
all_fit_first counts wirings h = each_fits wirings counts 0 (λ k. subst (λ i. fits_where (get_or counts k 0) (pins_for i wirings) ≡ true) (omega arith) (named_fit counts wirings k h))

-- ---- the parts that are attached

where_placed : (part : PartMeaning) (pins : Option (List ℕ)) → fits_where part.pins pins ≡ true → all_placed (placed_where part pins) ≡ true
where_placed part None h = refl
where_placed part (Some pins) h = both (are_pins part.pins pins) true h refl

from_placed : (wirings : List Wired) (parts : List PartMeaning) (index : ℕ) → fit_from index (counts_of parts) wirings ≡ true → all_placed (placed_from index parts wirings) ≡ true
from_placed wirings [] index h = refl
from_placed wirings (part ∷ parts) index h =
    let pins = pins_for index wirings in
    let fits = fits_where part.pins pins in
    let rest = fit_from (index + 1) (counts_of parts) wirings in
    list_all-append (λ p. are_pins p.part.pins p.pins) (placed_where part pins) (placed_from (index + 1) parts wirings)
    ∙ both (all_placed (placed_where part pins)) (all_placed (placed_from (index + 1) parts wirings)) (where_placed part pins (and_left fits rest h)) (from_placed wirings parts (index + 1) (and_right fits rest h))

-- each has its pins
pub placed_placed : (parts : List PartMeaning) (wirings : List Wired) → all_fit (counts_of parts) wirings ≡ true → all_placed (placed_by parts wirings) ≡ true
unfolding placed_by
placed_placed parts wirings h = from_placed wirings parts 0 (all_fit_first (counts_of parts) wirings h)

words_of-append : (xs ys : List Placed) → words_of (xs ++ ys) ≡ words_of xs + words_of ys
words_of-append [] ys = omega arith
words_of-append (x ∷ xs) ys = omega (arith, words_of-append xs ys)

words_where : (part : PartMeaning) (pins : Option (List ℕ)) → words_of (placed_where part pins) ≤ part.words
words_where part None = omega arith
words_where part (Some pins) = omega arith

words_from : (wirings : List Wired) (parts : List PartMeaning) (index : ℕ) → words_of (placed_from index parts wirings) ≤ all_words parts
words_from wirings [] index = omega arith
words_from wirings (part ∷ parts) index =
    let pins = pins_for index wirings in
    omega (arith, words_of-append (placed_where part pins) (placed_from (index + 1) parts wirings), words_where part pins, words_from wirings parts (index + 1))

-- they have no more words than all
pub placed_words : (parts : List PartMeaning) (wirings : List Wired) → words_of (placed_by parts wirings) ≤ all_words parts
unfolding placed_by
placed_words parts wirings = words_from wirings parts 0

-- where no part is left, those that were attached are all
pub all_attached : {P : Type 0} (placed : List Placed) (index : ℕ) (view : P → PartMeaning) (left all parts : List P) (wirings : List Wired) → length left ≡ 0
    → placed ++ placed_from index (map view left) wirings ≡ placed_from 0 (map view all) wirings → all ≡ parts → placed ≡ placed_by (map view parts) wirings
unfolding placed_by
all_attached placed index view [] all parts wirings none h same = sym (append-nil placed) ∙ (h ∙ ap (λ ps. placed_from 0 (map view ps) wirings) same)
all_attached placed index view (p ∷ left) all parts wirings none h same = absurd (omega (arith, none))

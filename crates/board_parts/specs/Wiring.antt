-- Which parts are attached to which pins: those that a list of wirings names, in the order of the parts. The project's own.
use Rattle.std.specs.Prelude.{ℕ, ◌+◌, Bool, true, ◌&&◌, ◌==◌, nat_lt, if◌then◌else◌, List, [], ◌∷◌, ◌++◌, length, map, slice_index, Option, Some, None}
use Rattle.std.specs.List.{list_all}
use Rattle.board_parts.specs.declared.wiring.Wiring.{Wiring}
use Rattle.board_parts.specs.Part.{PartMeaning, are_pins}
use Rattle.board_parts.specs.Parts.{Placed}

-- a part, by its index among those that are handed in, and the pins that it is attached to
pub record Wired : Type 0 where
  pub index : ℕ
  pub pins : List ℕ

abbrev pub wired_in : Wiring → Wired
wired_in wiring = record { index = wiring.index; pins = wiring.pins.items }

-- how many pins each part has
abbrev pub counts_of : List PartMeaning → List ℕ
counts_of parts = map (λ part. part.pins) parts

-- whether each names a part, where each of the parts has so many pins, and that part's pins
abbrev pub all_fit : List ℕ → List Wired → Bool
all_fit counts wirings = list_all (λ w. nat_lt w.index (length counts) && are_pins (slice_index counts w.index) w.pins) wirings

-- the pins of the part of an index
abbrev pub pins_for : ℕ → List Wired → Option (List ℕ)
pins_for index [] = None
pins_for index (wiring ∷ wirings) = if wiring.index == index then Some wiring.pins else pins_for index wirings

-- a part that is attached, where pins are named for it
abbrev pub placed_where : PartMeaning → Option (List ℕ) → List Placed
placed_where part None = []
placed_where part (Some pins) = record { pins = pins; part = part } ∷ []

-- the parts from an index on that are attached
abbrev pub placed_from : ℕ → List PartMeaning → List Wired → List Placed
placed_from index [] wirings = []
placed_from index (part ∷ parts) wirings = placed_where part (pins_for index wirings) ++ placed_from (index + 1) parts wirings

-- the parts that are attached, by their indices
unfoldable pub placed_by : List PartMeaning → List Wired → List Placed
placed_by parts wirings = placed_from 0 parts wirings

-- the words of all parts together
abbrev pub all_words : List PartMeaning → ℕ
all_words [] = 0
all_words (part ∷ parts) = part.words + all_words parts

-- whether pins that may be named for a part with so many are that part's
abbrev pub fits_where : ℕ → Option (List ℕ) → Bool
fits_where count None = true
fits_where count (Some pins) = are_pins count pins

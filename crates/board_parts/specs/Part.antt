-- What a part of a board does, as functions of the pins that it is attached to, of its state, a list of words, and of what it is handed.
-- The project's own.
use Rattle.std.specs.Prelude.{ℕ, Bool, true, ◌&&◌, ◌==◌, nat_le, not, ◌*◌, ◌^◌, List, [], ◌∷◌, length}
use Rattle.std.specs.List.{list_all}
use Rattle.board_parts.specs.declared.part.Drive.{Drive}

pub record PartMeaning : Type 0 where
  -- how many pins it has, and how many words its state has
  pub pins : ℕ
  pub words : ℕ
  -- the state at the start of a run, by its pins
  pub first : List ℕ → List ℕ
  -- a cycle, by pins, state, cycle number and pads: what it drives, and the state after the cycle
  pub drives : List ℕ → List ℕ → ℕ → ℕ → Drive
  pub after_step : List ℕ → List ℕ → ℕ → ℕ → List ℕ

-- whether no two of these are the same
abbrev pub all_different : List ℕ → Bool
all_different [] = true
all_different (pin ∷ pins) = list_all (λ other. not (other == pin)) pins && all_different pins

-- whether a part with so many pins can be attached to these: as many, each at most 29, and no two the same
abbrev pub are_pins : ℕ → List ℕ → Bool
are_pins count pins = (length pins == count) && (list_all (λ pin. nat_le pin 29) pins && all_different pins)

-- it drives nothing
abbrev pub no_drive : Drive
no_drive = record { mask = 0; level = 0 }

-- it drives a pin at a level, 0 or 1
abbrev pub at_level : ℕ → ℕ → Drive
at_level pin level = record { mask = 2 ^ pin; level = level * 2 ^ pin }

-- The lists among the words: items joined by a mark, no two of which clash. `--pio` has entries `B:M:FILE`, `--probe` entries `I=PIN`,
-- `--part` entries `I=PINS`, joined by commas (the project's own).
use Rattle.std.specs.Prelude.{ℕ, Bool, nat_eq, nat_lt, ◌==◌, ◌&&◌, if◌then◌else◌, List, [], ◌∷◌, ◌++◌, length, slice_index, Option, Some, None}
use Rattle.std.specs.List.{slice_split, before_first, after_first, position_or_len, list_any}
use Rattle.board_parts.specs.declared.target.Target.{Target}
use Rattle.board_parts.specs.Wiring.{Wired}
use Rattle.command_words.specs.Numbers.{given, number_within, number_below}

-- what stands before and after the first mark
abbrev pub cut : ℕ → List ℕ → Option (List ℕ × List ℕ)
cut mark text =
    let is : ℕ → Bool = λ byte. byte == mark in
    if nat_lt (position_or_len is text) (length text) then Some (before_first is text, after_first is text) else None

-- the pieces of a text between its marks
unfoldable pub pieces : ℕ → List ℕ → List (List ℕ)
pieces mark text = slice_split (λ byte. byte == mark) text

-- the items of some texts behind others, where none clashes with one before it
abbrev pub items_from : {X : Type 0} → (List ℕ → Option X) → (X → X → Bool) → List X → List (List ℕ) → Option (List X)
items_from read clash items [] = Some items
items_from read clash items (text ∷ texts) =
    given (read text) (λ item. if list_any (clash item) items then None else items_from read clash (items ++ item ∷ []) texts)

-- the items of a list, no two of which clash, if all can be read; the empty list where no list is given
unfoldable pub items_of : {X : Type 0} → (List ℕ → Option X) → (X → X → Bool) → ℕ → Option (List ℕ) → Option (List X)
items_of read clash mark None = Some []
items_of read clash mark (Some list) = items_from read clash [] (pieces mark list)

-- a program for a machine: the PIO block, 0 or 1, the machine, 0 to 3, and the name of the source file
pub record Entry : Type 0 where
  pub block : ℕ
  pub machine : ℕ
  pub file : List ℕ

-- `B:M:FILE`; the name is all that follows the second colon
unfoldable pub entry_of : List ℕ → Option Entry
entry_of text =
    given (cut 58 text) (λ outer. given (cut 58 outer.1) (λ inner.
    given (number_within 0 1 outer.0) (λ block. given (number_within 0 3 inner.0) (λ machine.
    Some (record { block = block; machine = machine; file = inner.1 })))))

-- two entries have one machine
abbrev pub share_machine : Entry → Entry → Bool
share_machine a b = (a.block == b.block) && (a.machine == b.machine)

-- `I=PIN`: the probe is one of those that are handed in, the pin 0 to 29
unfoldable pub target_of : ℕ → List ℕ → Option Target
target_of probes text =
    given (cut 61 text) (λ sides. given (number_below probes sides.0) (λ index. given (number_within 0 29 sides.1) (λ pin.
    Some (record { index = index; pin = pin }))))

-- two targets are of one probe
abbrev pub share_probe : Target → Target → Bool
share_probe a b = a.index == b.index

-- `I=PINS`: the part is one of those that are handed in, and the pins, each 0 to 29, joined by `+`, none twice, are as many as it has
unfoldable pub wiring_of : List ℕ → List ℕ → Option Wired
wiring_of parts text =
    given (cut 61 text) (λ sides. given (number_below (length parts) sides.0) (λ index.
    given (items_of (number_within 0 29) nat_eq 43 (Some sides.1)) (λ pins.
    if length pins == slice_index parts index then Some (record { index = index; pins = pins }) else None)))

-- two entries are of one part
abbrev pub share_part : Wired → Wired → Bool
share_part a b = a.index == b.index

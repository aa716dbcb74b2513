-- The FIFOs between the two cores (RP2040 Datasheet, 2.3.1.4, Inter-processor FIFOs): the mailbox of a core has the words for
-- it, at most 8, the oldest first.
use Rattle.std.specs.Prelude.{ℕ, Bool, nat_lt, if◌then◌else◌, List, [], ◌∷◌, ◌++◌, length, drop, slice_index}

abbrev pub has_word : List ℕ → Bool
has_word words = nat_lt 0 (length words)

abbrev pub has_room : List ℕ → Bool
has_room words = nat_lt (length words) 8

-- the oldest word, 0 where there is none
abbrev pub front_of : List ℕ → ℕ
front_of words = slice_index words 0

-- the oldest word is taken
abbrev pub taken_from : List ℕ → List ℕ
taken_from words = drop 1 words

-- a word is put behind the others, where there is room
abbrev pub put_into : ℕ → List ℕ → List ℕ
put_into w words = if has_room words then words ++ w ∷ [] else words

-- BUSCTRL: the registers of the fabric, by their offsets after 40030000 (RP2040 Datasheet, 2.1.5, List of Registers). No bit of RESETS
-- holds them.
use Rattle.std.specs.Prelude.{ℕ, Bool, List, [], ◌∷◌, Option, ⊤}
use Rattle.rp_base.specs.Rows.{Row, read_only, read_write, word_at, has_row, effect_at}
use Rattle.bus_fabric.specs.State.{State, with_priority}

abbrev pub busctrl_rows : List (Row ⊤ State)
busctrl_rows =
    read_write 0x00 "BUS_PRIORITY" (λ fabric. fabric.priority) with_priority
    ∷ read_only 0x04 "BUS_PRIORITY_ACK" (λ fabric. 1)
    ∷ []

-- what a word reads as, that there is one, and what an access does
abbrev pub word_of : ℕ → State → Option ℕ
word_of offset fabric = word_at busctrl_rows tt offset fabric

abbrev pub is_word : ℕ → Bool
is_word offset = has_row busctrl_rows offset

abbrev pub effect_of : ℕ → Option ℕ → State → State
effect_of offset write fabric = effect_at busctrl_rows offset write fabric

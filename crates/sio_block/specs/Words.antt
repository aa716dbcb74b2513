-- The words of the block by their offsets after D0000000, as a core reads them (RP2040 Datasheet, 2.3.1.7, List of Registers).
use Rattle.std.specs.Prelude.{ℕ, nat_lt, if◌then◌else◌, List, [], ◌∷◌, Option}
use Rattle.rp_base.specs.Rows.{Row, read_only, seen_only, word_at, has_row}
use Rattle.sio_block.specs.Offsets.{FIFO_ST, SPINLOCK0}
use Rattle.sio_block.specs.Pins.{pins_word}
use Rattle.sio_block.specs.Side.{side_word}
use Rattle.sio_block.specs.Locks.{lock_word}
use Rattle.sio_block.specs.State.{State, own_side, other_side}

-- what a core reads of the whole: its number, the levels of the pins, which it sees, and the locks that are taken
abbrev pub core_rows : ℕ → List (Row ℕ State)
core_rows core =
    read_only 0x000 "CPUID" (λ s. core)
    ∷ seen_only 0x004 "GPIO_IN" (λ inputs s. inputs)
    ∷ read_only 0x05c "SPINLOCK_ST" (λ s. s.locks.taken)
    ∷ []

-- what a word reads as for a core, where `inputs` are the levels of the pins; None where there is no such word
abbrev pub word_of : ℕ → ℕ → ℕ → State → Option ℕ
word_of core offset inputs s =
    if has_row (core_rows core) offset then word_at (core_rows core) inputs offset s else
    if nat_lt offset FIFO_ST then pins_word offset s.pins else
    if nat_lt offset SPINLOCK0
    then side_word offset (other_side core s).mailbox (own_side core s)
    else lock_word offset s.locks

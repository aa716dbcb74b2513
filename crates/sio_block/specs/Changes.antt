-- What a read and a write do to the block (RP2040 Datasheet, 2.3.1.7, List of Registers). An access to an offset that is no
-- word changes nothing. Whether a mailbox has a word or room, and whether a lock is free, is found by the block as it is when the
-- cycle begins, whatever the other core does in the same cycle: a core that read 0 of a lock takes none that the other one frees
-- then.
use Rattle.std.specs.Prelude.{ℕ, Bool, nat_lt, if◌then◌else◌, Option, Some, None}
use Rattle.sio_block.specs.Offsets.{FIFO_ST, SPINLOCK0}
use Rattle.sio_block.specs.Mailbox.{has_word, has_room}
use Rattle.sio_block.specs.Pins.{pins_written}
use Rattle.sio_block.specs.Side.{with_mailbox, side_written, mailbox_written, side_read}
use Rattle.sio_block.specs.Locks.{is_free, lock_read, lock_written}
use Rattle.sio_block.specs.State.{State, own_side, other_side, with_sides}

-- what a core's access finds: a read a word in its mailbox, or a lock that is free; a write room in the other core's mailbox
abbrev pub finds : ℕ → ℕ → Option ℕ → State → Bool
finds core offset None s =
    if nat_lt offset SPINLOCK0 then has_word (own_side core s).mailbox else is_free offset s.locks
finds core offset (Some w) s = has_room (other_side core s).mailbox

-- a read takes a word from the core's mailbox, clears DIRTY of its divider, or takes a lock
abbrev pub after_read : Bool → ℕ → ℕ → State → State
after_read found core offset s =
    if nat_lt offset SPINLOCK0
    then with_sides core (side_read found offset (own_side core s)) (other_side core s) s
    else record s { locks = lock_read found offset s.locks }

abbrev pub sides_written : Bool → ℕ → ℕ → ℕ → State → State
sides_written found core offset w s =
    let own = own_side core s in
    let other = other_side core s in
    with_sides core (side_written found offset w own) (with_mailbox (mailbox_written found offset w other.mailbox) other) s

abbrev pub after_write : Bool → ℕ → ℕ → ℕ → State → State
after_write found core offset w s =
    if nat_lt offset FIFO_ST then record s { pins = pins_written offset w s.pins } else
    if nat_lt offset SPINLOCK0 then sides_written found core offset w s else record s { locks = lock_written offset w s.locks }

-- what a read or a write of a core does that found this
abbrev pub effect_where : Bool → ℕ → ℕ → Option ℕ → State → State
effect_where found core offset None s = after_read found core offset s
effect_where found core offset (Some w) s = after_write found core offset w s

-- what it does where nothing was done in the cycle before it
abbrev pub effect_of : ℕ → ℕ → Option ℕ → State → State
effect_of core offset write s = effect_where (finds core offset write s) core offset write s

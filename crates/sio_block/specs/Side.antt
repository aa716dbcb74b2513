-- What each core has for itself: its mailbox with the flags of FIFO_ST, and its divider (RP2040 Datasheet, 2.3.1.4, 2.3.1.5
-- and 2.3.1.7). A core reads from its own mailbox and writes into the other core's.
use Rattle.std.specs.Prelude.{ℕ, ◌+◌, ◌*◌, Bool, true, false, not, ◌||◌, ◌&&◌, ◌==◌, if◌then◌else◌, List, [], ◌∷◌, Option, Some, None}
use Rattle.rp_base.specs.Word.{has_bit, bit_number}
use Rattle.rp_base.specs.Rows.{Row, register, read_acts, write_only, word_at, has_row, effect_at}
use Rattle.sio_block.specs.declared.side.Side.{Side}
use Rattle.sio_block.specs.Mailbox.{has_word, has_room, front_of, taken_from, put_into}
use Rattle.sio_block.specs.Divider.{divider_at_reset, divider_word, divider_written, divider_read, divider_ended}

abbrev pub side_at_reset : Side
side_at_reset = record { mailbox = []; write_on_full = false; read_on_empty = false; divider = divider_at_reset }

-- FIFO_ST: VLD tells that the core's mailbox has a word, RDY that the other one has room, WOF that a word was written to the
-- other one while it was full, and ROE that the core's was read while it was empty
abbrev pub status_of : List ℕ → Side → ℕ
status_of other s =
    bit_number (has_word s.mailbox) + bit_number (has_room other) * 2 + bit_number s.write_on_full * 4
    + bit_number s.read_on_empty * 8

-- the core's interrupt line: VLD, WOF or ROE
abbrev pub line_of : Side → Bool
line_of s = has_word s.mailbox || (s.write_on_full || s.read_on_empty)

-- a 1 written to WOF or ROE clears it
abbrev pub status_written : ℕ → Side → Side
status_written w s =
    record s {
      write_on_full = s.write_on_full && not (has_bit w 2);
      read_on_empty = s.read_on_empty && not (has_bit w 3);
    }

-- the words of the mailboxes, where a read sees the other core's mailbox, and an access has found a word in the core's, or room in
-- the other one: a word that was not there sets ROE, and one for which there was no room WOF
abbrev pub mailbox_rows : Bool → List (Row (List ℕ) Side)
mailbox_rows found =
    register 0x050 "FIFO_ST" status_of (λ s. s) status_written
    ∷ write_only 0x054 "FIFO_WR" (λ w s. record s { write_on_full = s.write_on_full || not found })
    ∷ read_acts 0x058 "FIFO_RD" (λ s. front_of s.mailbox) (λ s. record s {
      mailbox = if found then taken_from s.mailbox else s.mailbox;
      read_on_empty = s.read_on_empty || not found;
    })
    ∷ []

abbrev pub is_of_mailbox : ℕ → Bool
is_of_mailbox offset = has_row (mailbox_rows true) offset

-- what a word of the mailboxes or of the divider reads as, where `other` is the other core's mailbox
abbrev pub side_word : ℕ → List ℕ → Side → Option ℕ
side_word offset other s =
    if is_of_mailbox offset then word_at (mailbox_rows true) other offset s else divider_word offset s.divider

-- what an access does on the core's own side
abbrev pub side_written : Bool → ℕ → ℕ → Side → Side
side_written found offset w s =
    if is_of_mailbox offset then effect_at (mailbox_rows found) offset (Some w) s
    else record s { divider = divider_written offset w s.divider }

abbrev pub side_read : Bool → ℕ → Side → Side
side_read found offset s =
    if is_of_mailbox offset then effect_at (mailbox_rows found) offset None s
    else record s { divider = divider_read offset s.divider }

-- what a write does to the other core's mailbox; a word for a mailbox that was full is dropped
abbrev pub mailbox_written : Bool → ℕ → ℕ → List ℕ → List ℕ
mailbox_written found offset w other = if found && offset == 0x054 then put_into w other else other

abbrev pub with_mailbox : List ℕ → Side → Side
with_mailbox words s = record s { mailbox = words }

abbrev pub side_ended : Side → Side
side_ended s = record s { divider = divider_ended s.divider }

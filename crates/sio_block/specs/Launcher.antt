-- How core 1 is started (RP2040 Datasheet, 2.8.2, Launching Code On Processor Core 1): while it sleeps it takes the words of
-- its mailbox, one a cycle, and answers each. They are to be 0, 0, 1, and then three of any value: the vector table, the stack
-- pointer and the entry. A word that fits is answered by itself. Another is answered by its complement, and the launcher begins
-- again.
use Rattle.std.specs.Prelude.{ℕ, ◌-◌, ◌^◌, Bool, true, ◌&&◌, ◌==◌, nat_lt, if◌then◌else◌, List, [], ◌∷◌, ◌++◌, length, slice_index, Option, Some, None}
use Rattle.sio_block.specs.declared.Launch.{Launch}
use Rattle.sio_block.specs.Mailbox.{has_word, has_room, front_of, taken_from, put_into}
use Rattle.sio_block.specs.Side.{with_mailbox}
use Rattle.sio_block.specs.State.{State}

-- the launcher has a word to take, and room for the answer
abbrev pub offers_of : State → Bool
offers_of s = has_word s.core1.mailbox && has_room s.core0.mailbox

-- a word fits after those that were taken
abbrev pub fits_after : List ℕ → ℕ → Bool
fits_after taken w =
    if nat_lt (length taken) 2 then w == 0 else if length taken == 2 then w == 1 else true

-- a word is the sixth of those that fit
abbrev pub is_last : List ℕ → ℕ → Bool
is_last taken w = length taken == 5 && fits_after taken w

abbrev pub answer_to : List ℕ → ℕ → ℕ
answer_to taken w = if fits_after taken w then w else 2 ^ 32 - 1 - w

-- after the sixth word, and after one that does not fit, it begins again
abbrev pub taken_after : List ℕ → ℕ → List ℕ
taken_after taken w = if is_last taken w then [] else if fits_after taken w then taken ++ w ∷ [] else []

-- the sixth word starts core 1
abbrev pub launch_after : List ℕ → ℕ → Option Launch
launch_after taken w =
    if is_last taken w
    then Some (record { vtor = slice_index taken 3; sp = slice_index taken 4; entry = w })
    else None

-- the launcher takes a word
abbrev pub word_taken : ℕ → State → State
word_taken w s =
    record s {
      core0 = with_mailbox (put_into (answer_to s.launched w) s.core0.mailbox) s.core0;
      core1 = with_mailbox (taken_from s.core1.mailbox) s.core1;
      launched = taken_after s.launched w;
    }

-- one turn of the launcher, and what it starts
abbrev pub after_turn : State → State
after_turn s = if offers_of s then word_taken (front_of s.core1.mailbox) s else s

abbrev pub launch_of : State → Option Launch
launch_of s = if offers_of s then launch_after s.launched (front_of s.core1.mailbox) else None

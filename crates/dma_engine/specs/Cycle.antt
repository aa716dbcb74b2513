-- A cycle of the engine: what it wants, and what the cycle leaves (RP2040 Datasheet, 2.5.1, 2.5.1.1 and 2.5.2). Sequences
-- end; the read of the chosen channel is done, or waits; so is the first write; the next channel is chosen.
use Rattle.std.specs.Prelude.{ℕ, ◌-◌, Bool, true, false, not, ◌||◌, ◌&&◌, ◌==◌, nat_lt, if◌then◌else◌, List, [], ◌∷◌, ◌++◌, length, drop, slice_get, slice_set, Option, Some, None}
use Rattle.std.specs.List.{list_any}
use Rattle.lane_look.specs.declared.lane.Want.{Want}
use Rattle.lane_look.specs.declared.lane.Want.TheVariants as want
use Rattle.lane_look.specs.declared.lane.Turn.{Turn}
use Rattle.lane_look.specs.declared.lane.Turn.TheVariants.{Done}
use Rattle.dma_engine.specs.declared.channel.Channel.{Channel}
use Rattle.dma_engine.specs.declared.waiting.WaitingWrite.{WaitingWrite}
use Rattle.dma_engine.specs.declared.begun.Access.{Access}
use Rattle.dma_engine.specs.declared.begun.Access.TheVariants as access
use Rattle.dma_engine.specs.declared.begun.BegunTransfer.{BegunTransfer}
use Rattle.dma_engine.specs.Control.{treq_of}
use Rattle.dma_engine.specs.Choice.{choice_of}
use Rattle.dma_engine.specs.Requests.{Pace, pace_of}
use Rattle.dma_engine.specs.Requests.Pace.{Timer}
use Rattle.dma_engine.specs.Channel.{in_turn, changed, with_end}
use Rattle.dma_engine.specs.Transfer.{moved, write_after}
use Rattle.dma_engine.specs.Timer.{gets_credit, after_timers}
use Rattle.dma_engine.specs.State.{State, channel_at}

-- ---- wants

abbrev pub want_of : Access → Want
want_of access.Nothing = want.Nothing
want_of (access.Read request told) = want.Ram request
want_of (access.Write request) = want.Ram request
want_of (access.Outward request) = want.Outward request
want_of (access.Stopped cause) = want.Stopped cause

-- the read, then the write
abbrev pub wanted : BegunTransfer → List Want
wanted begun = want_of begun.read ∷ want_of begun.write ∷ []

-- ---- the end of sequences

abbrev pub is_chosen : ℕ → Option ℕ → Bool
is_chosen n None = false
is_chosen n (Some m) = m == n

abbrev pub has_write : ℕ → List WaitingWrite → Bool
has_write n writes = list_any (λ (w : WaitingWrite). w.channel == n) writes

-- a transfer of the channel is chosen and not written
abbrev pub is_in_flight : ℕ → State → Bool
is_in_flight n s = is_chosen n s.chosen || has_write n s.waiting

abbrev pub is_through : Channel → Bool
is_through c = c.busy && c.count == 0

-- a busy channel has nothing left and nothing in flight
abbrev pub is_over : State → ℕ → Bool
is_over s n = is_through (channel_at n s) && not (is_in_flight n s)

-- the sequences that are over at the start end, in order of number
unfoldable pub after_ends : State → State
after_ends s = in_turn (is_over s) with_end 12 s

-- ---- the read

-- the word of an access that is done
abbrev pub word_of : Option Turn → Option ℕ
word_of (Some (Done word)) = Some word
word_of _ = None

-- a read of SRAM has the word that was told, any other that of its turn
abbrev pub word_read : Access → Option ℕ → Option ℕ
word_read (access.Read request told) (Some word) = Some told
word_read (access.Outward request) (Some word) = Some word
word_read _ _ = None

-- the data joins the writes that wait, and the addresses advance
abbrev pub with_data : ℕ → ℕ → Channel → State → State
with_data word n c e = record e {
  channels = slice_set e.channels n (moved c);
  chosen = None;
  waiting = e.waiting ++ write_after n c word ∷ [];
}

abbrev pub with_read_by : ℕ → Option ℕ → State → State
with_read_by word None e = e
with_read_by word (Some n) e = if nat_lt n 12 then with_data word n (channel_at n e) e else e

-- at most two writes wait
unfoldable pub with_read : ℕ → State → State
with_read word e = if nat_lt (length e.waiting) 2 then with_read_by word e.chosen e else e

abbrev pub after_read : Option ℕ → State → State
after_read None e = e
after_read (Some word) e = with_read word e

-- ---- the write

abbrev pub is_written : Access → Option ℕ → Bool
is_written (access.Write request) (Some word) = true
is_written (access.Outward request) (Some word) = true
is_written _ _ = false

abbrev pub after_write : Bool → State → State
after_write done e = if done then record e { waiting = drop 1 e.waiting } else e

-- ---- the choice

abbrev pub uses_credits : Pace → Bool
uses_credits (Timer k) = true
uses_credits _ = false

abbrev pub credits_left : Channel → ℕ
credits_left c = if uses_credits (pace_of (treq_of c)) then c.credits - 1 else c.credits

-- one transfer less is left, and one credit less of a channel that is paced by a timer
abbrev pub counted : Channel → Channel
counted c = record c { count = c.count - 1; credits = credits_left c }

abbrev pub with_chosen : ℕ → State → State
with_chosen n e = record e { chosen = Some n; last_chosen = n }

abbrev pub with_choice : Option ℕ → State → State
with_choice None e = e
with_choice (Some n) e = with_chosen n (changed counted n e)

-- a channel is chosen where none is
abbrev pub choice_where_none : Option ℕ → Option ℕ → State → State
choice_where_none None choice e = with_choice choice e
choice_where_none (Some n) choice e = e

abbrev pub after_choice : Option ℕ → State → State
after_choice choice e = choice_where_none e.chosen choice e

-- ---- the cycle

abbrev pub after_read_of : BegunTransfer → List Turn → State → State
after_read_of begun turns e = after_read (word_read begun.read (word_of (slice_get turns 0))) e

abbrev pub after_write_of : BegunTransfer → List Turn → State → State
after_write_of begun turns e = after_write (is_written begun.write (word_of (slice_get turns 1))) e

-- the transfers of a cycle: sequences end, the read and the write are done or wait, and the next channel is chosen
unfoldable pub after_transfers : State → BegunTransfer → List Turn → State
after_transfers s begun turns =
    after_choice (choice_of begun.counts s) (after_write_of begun turns (after_read_of begun turns (after_ends s)))

-- which channels are over, which one is ready, and which ones get a credit, is found at the start
unfoldable pub next : State → BegunTransfer → List Turn → State
next s begun turns = after_timers (gets_credit s) (after_transfers s begun turns)

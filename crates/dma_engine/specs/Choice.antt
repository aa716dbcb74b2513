-- Which channel is chosen for the next transfer (RP2040 Datasheet, 2.5.1.1, channel arbitration, and 2.5.3, data
-- requests).
use Rattle.std.specs.Prelude.{ℕ, zero, suc, ◌+◌, ◌%◌, Bool, true, false, not, ◌&&◌, ◌||◌, ◌==◌, nat_lt, if◌then◌else◌, Option, Some, None}
use Rattle.std.specs.List.{count_by}
use Rattle.rp_base.specs.Word.{bit_number}
use Rattle.dma_engine.specs.declared.channel.Channel.{Channel}
use Rattle.dma_engine.specs.declared.waiting.WaitingWrite.{WaitingWrite}
use Rattle.dma_engine.specs.Control.{is_high, treq_of}
use Rattle.dma_engine.specs.Pace.{count_at}
use Rattle.dma_engine.specs.Requests.{Pace, pace_of}
use Rattle.dma_engine.specs.Requests.Pace.{Sender, Receiver, Timer, Always, Never}
use Rattle.dma_engine.specs.State.{State, channel_at}

-- ---- transfers in flight

-- the channel of that number has this data request
abbrev pub is_paced_by : ℕ → State → ℕ → Bool
is_paced_by treq s n = nat_lt n 12 && treq_of (channel_at n s) == treq

abbrev pub chosen_by : ℕ → State → Option ℕ → Bool
chosen_by treq s None = false
chosen_by treq s (Some n) = is_paced_by treq s n

-- the transfers of that data request that are chosen and not read
abbrev pub unread : ℕ → State → ℕ
unread treq s = bit_number (chosen_by treq s s.chosen)

-- and those that are chosen and not written: their writes wait
unfoldable pub writes_of : ℕ → State → ℕ
writes_of treq s = count_by (λ (w : WaitingWrite). is_paced_by treq s w.channel) s.waiting

abbrev pub unwritten : ℕ → State → ℕ
unwritten treq s = unread treq s + writes_of treq s

-- ---- the choice

-- a transmitter has room for one more transfer than are on their way to it, a receiver one more word than are on their way
-- from it
abbrev pub is_ready_by : Pace → ℕ → ℕ → Channel → State → Bool
is_ready_by (Sender index) treq counts c s = nat_lt (unwritten treq s) (count_at index counts)
is_ready_by (Receiver index) treq counts c s = nat_lt (unread treq s) (count_at index counts)
is_ready_by (Timer k) treq counts c s = nat_lt 0 c.credits
is_ready_by Always treq counts c s = true
is_ready_by Never treq counts c s = false

unfoldable pub is_ready : ℕ → Channel → State → Bool
is_ready counts c s = is_ready_by (pace_of (treq_of c)) (treq_of c) counts c s

-- a channel that can be chosen is busy, has transfers left and is ready
abbrev pub is_candidate_channel : Bool → ℕ → State → Channel → Bool
is_candidate_channel high counts s c =
    c.busy && (not (c.count == 0) && ((not high || is_high c) && is_ready counts c s))

-- of all channels, or of those of high priority alone
abbrev pub is_candidate : Bool → ℕ → State → ℕ → Bool
is_candidate high counts s n = is_candidate_channel high counts s (channel_at n s)

-- the first of so many channels that passes a test, where channel 0 follows channel 11
unfoldable pub first_in_turn : (ℕ → Bool) → ℕ → ℕ → Option ℕ
first_in_turn test n zero = None
first_in_turn test n (suc left) = if test (n % 12) then Some (n % 12) else first_in_turn test (n + 1) left

-- the next candidate after the channel that was chosen last
abbrev pub next_candidate : Bool → ℕ → State → Option ℕ
next_candidate high counts s = first_in_turn (is_candidate high counts s) (s.last_chosen + 1) 12

abbrev pub or_else : Option ℕ → Option ℕ → Option ℕ
or_else None other = other
or_else (Some n) other = Some n

-- the choice: one of high priority before all others
unfoldable pub choice_of : ℕ → State → Option ℕ
choice_of counts s = or_else (next_candidate true counts s) (next_candidate false counts s)

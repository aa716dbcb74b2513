-- What becomes of the sequence of a channel, whatever the other channels, the bus and the data requests do (RP2040 Datasheet, 2.5.1,
-- 2.5.1.1, 2.5.2 and 2.5.3): what it reads is written, in order and once, and when all is written it ends and raises its interrupt once.
use Rattle.std.specs.Prelude.{◌≡◌, ℕ, zero, suc, ◌+◌, ◌<◌, Bool, true, false, not, ◌&&◌, ◌||◌, if◌then◌else◌, List, [], ◌∷◌, ◌++◌, length, map, Option, Some, None, option_to_list, slice_get}
use Rattle.std.specs.List.{filter, flat_map}
use Rattle.rp_base.specs.declared.Request.{Request}
use Rattle.rp_base.specs.Word.{has_bit, bit_number}
use Rattle.lane_look.specs.declared.lane.Ask.{Ask}
use Rattle.lane_look.specs.declared.lane.Want.{Want}
use Rattle.lane_look.specs.declared.lane.Want.TheVariants as want
use Rattle.lane_look.specs.declared.lane.Turn.{Turn}
use Rattle.lane_look.specs.Asking.{answered}
use Rattle.dma_engine.specs.declared.channel.Channel.{Channel}
use Rattle.dma_engine.specs.declared.waiting.WaitingWrite.{WaitingWrite}
use Rattle.dma_engine.specs.declared.begun.BegunTransfer.{BegunTransfer}
use Rattle.dma_engine.specs.Asks.{asks}
use Rattle.dma_engine.specs.Control.{irq_quiet}
use Rattle.dma_engine.specs.Cycle.{want_of, word_of, word_read, is_chosen, is_over, next}
use Rattle.dma_engine.specs.State.{State as Engine, channel_at}
use Rattle.dma_engine.specs.Transfer.{moved, read_of, write_after, request_of}

-- ---- a cycle

-- the engine at its start, the answers to its questions, and what the bus gave its read and its write
pub record Cycle : Type 0 where
  pub engine : Engine
  pub answers : Ask → ℕ
  pub turns : List Turn

abbrev pub begun_in : Cycle → BegunTransfer
begun_in t = answered t.answers (asks t.engine)

abbrev pub after : Cycle → Engine
after t = next t.engine (begun_in t) t.turns

-- the access of a want
abbrev pub access_of : Want → Option Request
access_of (want.Ram request) = Some request
access_of (want.Outward request) = Some request
access_of _ = None

-- it is granted: the bus did it in this cycle
abbrev pub granted : Option ℕ → Want → List Request
granted (Some word) w = option_to_list (access_of w)
granted None w = []

-- ---- what the channel reads

-- the word that it read
abbrev pub word_by : ℕ → Cycle → Option ℕ
word_by k t = if is_chosen k t.engine.chosen then word_read (begun_in t).read (word_of (slice_get t.turns 0)) else None

-- and the access that was
abbrev pub read_by : ℕ → Cycle → List Request
read_by k t = if is_chosen k t.engine.chosen then granted (word_of (slice_get t.turns 0)) (want_of (begun_in t).read) else []

-- ---- what it writes

-- the oldest write that waits is one of the channel
abbrev pub is_first : ℕ → List WaitingWrite → Bool
is_first k [] = false
is_first k (w ∷ ws) = is_chosen k (Some w.channel)

abbrev pub written_by : ℕ → Cycle → List Request
written_by k t = if is_first k t.engine.waiting then granted (word_of (slice_get t.turns 1)) (want_of (begun_in t).write) else []

-- its writes that wait
abbrev pub waiting_of : ℕ → Engine → List Request
waiting_of k s = map request_of (filter (λ (w : WaitingWrite). is_chosen k (Some w.channel)) s.waiting)

-- ---- its transfers

-- the reads of so many transfers of a channel, from this one on
abbrev pub reads_from : Channel → ℕ → List Request
reads_from c zero = []
reads_from c (suc n) = read_of c ∷ reads_from (moved c) n

-- and the writes of these words
abbrev pub writes_from : ℕ → Channel → List ℕ → List Request
writes_from k c [] = []
writes_from k c (word ∷ words) = request_of (write_after k c word) ∷ writes_from k (moved c) words

-- ---- cycles one after another

-- between two cycles others may write registers, but those of this channel stay
pub record Leaves (k : ℕ) (s t : Engine) : Type 0 where
  pub channel : channel_at k t ≡ channel_at k s
  pub chosen : t.chosen ≡ s.chosen
  pub waiting : t.waiting ≡ s.waiting
  pub twelve : length t.channels ≡ 12

-- these are the cycles of an engine from this state on, and at the start of none the sequence of the channel is over
abbrev pub AreCycles : ℕ → Engine → List Cycle → Type 0
AreCycles k s [] = Unit {0}
AreCycles k s (t ∷ ts) = Leaves k s t.engine × (is_over t.engine k ≡ false) × AreCycles k (after t) ts

abbrev pub end_of : Engine → List Cycle → Engine
end_of s [] = s
end_of s (t ∷ ts) = end_of (after t) ts

abbrev pub words_over : ℕ → List Cycle → List ℕ
words_over k ts = flat_map (λ t. option_to_list (word_by k t)) ts

abbrev pub reads_over : ℕ → List Cycle → List Request
reads_over k ts = flat_map (read_by k) ts

abbrev pub written_over : ℕ → List Cycle → List Request
written_over k ts = flat_map (written_by k) ts

-- ---- the law of a copy

-- a sequence has begun, and none of its transfers: the channel is busy, and nothing of it is chosen or waits
pub record HasBegun (k : ℕ) (s : Engine) : Type 0 where
  pub number : k < 12
  pub busy : (channel_at k s).busy ≡ true
  pub unread : is_chosen k s.chosen ≡ false
  pub unwritten : waiting_of k s ≡ []

-- so many of its transfers are chosen, and not read
abbrev pub in_hand : ℕ → Engine → ℕ
in_hand k s = bit_number (is_chosen k s.chosen)

-- the channel made the reads of its transfers, one after another, and each word that it read was written, or its write waits, in this
-- order. It stays busy, and of all its transfers each is read, in hand or left. Its sequence is over where as many are written as there
-- were, and nowhere else
pub record IsCopied (k : ℕ) (s : Engine) (ts : List Cycle) : Type 0 where
  pub reads : reads_over k ts ≡ reads_from (channel_at k s) (length (words_over k ts))
  pub writes : written_over k ts ++ waiting_of k (end_of s ts) ≡ writes_from k (channel_at k s) (words_over k ts)
  pub busy : (channel_at k (end_of s ts)).busy ≡ true
  pub count : (channel_at k (end_of s ts)).count + in_hand k (end_of s ts) + length (words_over k ts) ≡ (channel_at k s).count
  pub over : is_over (end_of s ts) k ≡ true → length (written_over k ts) ≡ (channel_at k s).count
  pub all : length (written_over k ts) ≡ (channel_at k s).count → is_over (end_of s ts) k ≡ true

abbrev pub ACopyIsExactOnAnyChannel : Type 0
ACopyIsExactOnAnyChannel = (k : ℕ) (s : Engine) (ts : List Cycle) → HasBegun k s → AreCycles k s ts → IsCopied k s ts

-- ---- the law of its end

-- the end of its sequence is neither that of an abort nor quiet
abbrev pub reports : Channel → Bool
reports c = not c.aborted && not (irq_quiet c)

-- in a cycle a channel's bit of INTR is set where its sequence is over, but for an abort and IRQ_QUIET, and else stays; and there it is
-- idle after it, where no other sequence ends in the same cycle, which might trigger it again
pub record Ends (k : ℕ) (t : Cycle) : Type 0 where
  pub raised : has_bit (after t).raised k ≡ (has_bit t.engine.raised k || (is_over t.engine k && reports (channel_at k t.engine)))
  pub idle : is_over t.engine k ≡ true → ((j : ℕ) → j < 12 → is_over t.engine j ≡ true → j ≡ k)
      → (channel_at k (after t)).busy ≡ false

abbrev pub AnEndIsRaisedOnce : Type 0
AnEndIsRaisedOnce = (k : ℕ) (t : Cycle) → k < 12 → length t.engine.channels ≡ 12 → Ends k t

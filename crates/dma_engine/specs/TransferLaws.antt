-- What becomes of a sequence of transfers (RP2040 Datasheet, 2.5.1): n words are copied one after another, then the channel ends
-- and raises its interrupt once; and what a ring and an abort leave (2.5.2.3 and 2.5.5.3).
use Rattle.std.specs.Prelude.{◌≡◌, ℕ, zero, suc, ◌+◌, ◌*◌, ◌/◌, ◌%◌, ◌^◌, ◌≤◌, Bool, true, false, List, [], ◌∷◌, ◌++◌, replicate, Option, Some, None}
use Rattle.lane_look.specs.declared.lane.Ask.{Ask}
use Rattle.lane_look.specs.declared.lane.Ask.TheVariants.{Word}
use Rattle.lane_look.specs.declared.lane.Want.{Want}
use Rattle.lane_look.specs.declared.lane.Want.TheVariants as want
use Rattle.lane_look.specs.declared.lane.Turn.TheVariants.{Done}
use Rattle.lane_look.specs.Asking.{answered}
use Rattle.dma_engine.specs.declared.channel.Channel.{Channel}
use Rattle.dma_engine.specs.declared.waiting.WaitingWrite.{WaitingWrite}
use Rattle.dma_engine.specs.declared.begun.BegunTransfer.{BegunTransfer}
use Rattle.dma_engine.specs.Asks.{asks}
use Rattle.dma_engine.specs.Channel.{with_abort}
use Rattle.dma_engine.specs.Cycle.{want_of, next}
use Rattle.dma_engine.specs.State.{State, idle_channel, at_reset}
use Rattle.dma_engine.specs.Transfer.{advanced}

-- ---- a copy of words

-- a channel that copies words: EN, DATA_SIZE 2, INCR_READ, INCR_WRITE, no ring, chained to itself, unpaced (TREQ_SEL 63)
abbrev pub copier : ℕ → ℕ → ℕ → ℕ → Bool → Channel
copier reload read write count busy = record {
  read = read;
  write = write;
  count = count;
  reload = reload;
  ctrl = 0x1F8039;
  busy = busy;
  aborted = false;
  credits = 0;
}

-- channel 0 is such a one, and the others are as after a reset
abbrev pub with_channel_0 : Channel → Option ℕ → List WaitingWrite → ℕ → State
with_channel_0 c chosen waiting raised =
    record at_reset {
      channels = c ∷ replicate 11 idle_channel;
      chosen = chosen;
      last_chosen = 0;
      waiting = waiting;
      raised = raised;
    }

-- a cycle in which the memory answers, and each access is done
abbrev pub memory_answer : (ℕ → ℕ) → Ask → ℕ
memory_answer memory (Word address) = memory address
memory_answer memory _ = 0

abbrev pub begun_by : (ℕ → ℕ) → State → BegunTransfer
begun_by memory s = answered (memory_answer memory) (asks s)

abbrev pub granted : (ℕ → ℕ) → State → State
granted memory s = next s (begun_by memory s) (Done 0 ∷ Done 0 ∷ [])

abbrev pub engine_after : (ℕ → ℕ) → ℕ → State → State
engine_after memory zero s = s
engine_after memory (suc n) s = engine_after memory n (granted memory s)

-- what is written to SRAM: addresses and words
abbrev pub data_written : ℕ → Option ℕ → List (ℕ × ℕ)
data_written address None = []
data_written address (Some word) = (address, word) ∷ []

abbrev pub written_by : Want → List (ℕ × ℕ)
written_by (want.Ram request) = data_written request.address request.write
written_by _ = []

abbrev pub writes : (ℕ → ℕ) → ℕ → State → List (ℕ × ℕ)
writes memory zero s = []
writes memory (suc n) s = written_by (want_of (begun_by memory s).write) ++ writes memory n (granted memory s)

-- the words from one address on, to another one and those after it
abbrev pub copies : (ℕ → ℕ) → ℕ → ℕ → ℕ → List (ℕ × ℕ)
copies memory zero read write = []
copies memory (suc n) read write = (write, memory read % 2 ^ 32) ∷ copies memory n (read + 4) (write + 4)

-- n words from an address on are in the striped view of SRAM
pub record AreInSram (n address : ℕ) : Type 0 where
  pub aligned : address % 4 ≡ 0
  pub first : 0x20000000 ≤ address
  pub last : address + 4 * n ≤ 0x20040000

-- the n words are copied in order, two cycles and one for each; in the next cycle the sequence ends, and INTR has the channel's
-- bit; in no cycle after that anything is written or raised
pub record IsCopied (memory : ℕ → ℕ) (n reload read write : ℕ) : Type 0 where
  pub copied : writes memory (n + 2) (with_channel_0 (copier reload read write n true) None [] 0) ≡ copies memory n read write
  pub not_yet : (engine_after memory (n + 2) (with_channel_0 (copier reload read write n true) None [] 0)).raised ≡ 0
  pub ended :
      engine_after memory (n + 3) (with_channel_0 (copier reload read write n true) None [] 0)
      ≡ with_channel_0 (copier reload (read + 4 * n) (write + 4 * n) 0 false) None [] 1
  pub still :
      (m : ℕ) → writes memory m (with_channel_0 (copier reload (read + 4 * n) (write + 4 * n) 0 false) None [] 1) ≡ []
      × engine_after memory m (with_channel_0 (copier reload (read + 4 * n) (write + 4 * n) 0 false) None [] 1)
      ≡ with_channel_0 (copier reload (read + 4 * n) (write + 4 * n) 0 false) None [] 1

abbrev pub ACopyIsExact : Type 0
ACopyIsExact =
    (memory : ℕ → ℕ) (n reload read write : ℕ) → 1 ≤ n → AreInSram n read → AreInSram n write →
    IsCopied memory n reload read write

-- ---- a ring

-- in a ring of n bits the bits above stay, and the low ones go on
pub record IsRing (n bytes address : ℕ) : Type 0 where
  pub high : advanced n bytes address / 2 ^ n ≡ address / 2 ^ n
  pub low : advanced n bytes address % 2 ^ n ≡ (address % 2 ^ n + bytes) % 2 ^ n

abbrev pub ARingKeepsItsHighBits : Type 0
ARingKeepsItsHighBits = (n bytes address : ℕ) → 1 ≤ n → IsRing n bytes address

-- ---- an abort

-- a copy that is aborted while nothing is in flight writes and raises nothing
abbrev pub AnAbortRaisesNothing : Type 0
AnAbortRaisesNothing =
    (memory : ℕ → ℕ) (n reload read write m : ℕ) →
    let s = with_abort 0 (with_channel_0 (copier reload read write n true) None [] 0) in
    (writes memory m s ≡ []) × ((engine_after memory m s).raised ≡ 0)

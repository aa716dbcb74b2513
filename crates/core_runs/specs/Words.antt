-- SRAM as the machine has it, a list of 67,584 words, and as the list of its bytes: a core runs alike over both (RP2040
-- Datasheet, 2.6.2, SRAM; AMBA 3 AHB-Lite Protocol Specification, chapter 6, byte lanes).
use Rattle.std.specs.Prelude.{◌≡◌, ℕ, ◌^◌, ◌<◌, false, List, [], ◌∷◌, ◌++◌, length, slice_index, Option, Some}
use Rattle.rp_base.specs.declared.Request.{Request}
use Rattle.rp_base.specs.declared.map.Spot.{Spot}
use Rattle.rp_base.specs.declared.map.Spot.TheVariants as spot
use Rattle.rp_base.specs.Access.{lanes_at, replicated}
use Rattle.rp_base.specs.Map.{place_of}
use Rattle.rp_base.specs.Word.{byte_of}
use Rattle.ram_banks.specs.Sram.{written}
use Rattle.lane_look.specs.declared.lane.Ask.{Ask}
use Rattle.lane_look.specs.declared.lane.Ask.TheVariants as ask
use Rattle.lane_look.specs.declared.lane.Want.{Want}
use Rattle.lane_look.specs.declared.lane.Want.TheVariants as want
use Rattle.lane_look.specs.Alone.{Surroundings, surroundings, Alone, alone, ends_at}
use Rattle.m0_beats.specs.declared.registers.Regs.{Regs}
use Rattle.m0_core.specs.State.{State}
use Rattle.core_runs.specs.Bytes.{half_of, IsSram}
use Rattle.core_runs.specs.Runs.{core_lane, run, ends_in, IsReady, Steps}

-- ---- words and their bytes

pub record AreWords (ws : List ℕ) : Type 0 where
  pub size : length ws ≡ 67584
  pub words : (i : ℕ) → slice_index ws i < 2 ^ 32

abbrev pub four_bytes : ℕ → List ℕ
four_bytes w = byte_of w 0 ∷ byte_of w 1 ∷ byte_of w 2 ∷ byte_of w 3 ∷ []

abbrev pub bytes_in : List ℕ → List ℕ
bytes_in [] = []
bytes_in (w ∷ ws) = four_bytes w ++ bytes_in ws

-- ---- around a core: the words of SRAM, and every interrupt line is low

abbrev pub word_of : List ℕ → Spot → ℕ
word_of ws (spot.Ram index bank) = slice_index ws index
word_of ws _ = 0

abbrev pub word_answer : List ℕ → Ask → ℕ
word_answer ws (ask.Half address) = half_of (word_of ws (place_of address)) address
word_answer ws (ask.Word address) = word_of ws (place_of address)
word_answer ws _ = 0

abbrev pub stored_word_at : Request → Option ℕ → Spot → List ℕ → List ℕ
stored_word_at request (Some value) (spot.Ram index bank) ws =
    written ws index (lanes_at request.size request.address) (replicated request.size value)
stored_word_at request _ _ ws = ws

abbrev pub stored_word : List ℕ → Want → List ℕ
stored_word ws (want.Ram request) = stored_word_at request request.write (place_of request.address) ws
stored_word ws _ = ws

abbrev pub around_words : Surroundings (List ℕ)
around_words = surroundings word_answer stored_word

-- ---- runs over both

-- the run over the words, and that over their bytes
pub record RunsAlike (cycle n : ℕ) (s : State) (ws : List ℕ) (r q : Alone State (List ℕ)) : Type 0 where
  pub core : r.state ≡ q.state
  pub memory : bytes_in r.around ≡ q.around
  pub talk : r.talk ≡ q.talk
  pub ends : ends_at core_lane around_words tt s cycle ws n ≡ ends_in cycle n s (bytes_in ws)

abbrev pub ARunOverWordsIsThatOverTheirBytes : Type 0
ARunOverWordsIsThatOverTheirBytes =
    (cycle n : ℕ) (s : State) (ws : List ℕ)
    → AreWords ws
    → RunsAlike cycle n s ws (alone core_lane around_words tt s cycle ws n) (run cycle n s (bytes_in ws))

-- ---- so what holds of runs over the bytes holds of the machine's words

-- so many cycles over the words go on, and leave the core ready, with these registers and over words that have these bytes
pub record LeadsOverWords (cycle n : ℕ) (s : State) (ws : List ℕ) (regs : Regs) (m : List ℕ) (r : Alone State (List ℕ))
    : Type 0 where
  pub goes_on : (k : ℕ) → k < n → ends_at core_lane around_words tt s cycle ws k ≡ false
  pub ready : IsReady r.state
  pub registers : r.state.regs ≡ regs
  pub memory : bytes_in r.around ≡ m

abbrev pub StepsHoldOverWords : Type 0
StepsHoldOverWords =
    (n : ℕ) (regs regs' : Regs) (ws m : List ℕ)
    → AreWords ws
    → Steps n regs (bytes_in ws) regs' m
    → (cycle : ℕ) (s : State)
    → IsReady s
    → s.regs ≡ regs
    → LeadsOverWords cycle n s ws regs' m (alone core_lane around_words tt s cycle ws n)

abbrev pub TheBytesOfWordsAreSram : Type 0
TheBytesOfWordsAreSram = (ws : List ℕ) → AreWords ws → IsSram (bytes_in ws)

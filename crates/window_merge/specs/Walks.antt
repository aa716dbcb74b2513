-- A lane that runs alone again beside a log: what it sees, how far the log is the same, and whether the run ends. The project's
-- own.
use Rattle.std.specs.Prelude.{◌≡◌, ℕ, ◌+◌, ◌*◌, ◌<◌, ◌≤◌, Bool, true, false, List, [], ◌∷◌, ◌++◌, length, take}
use Rattle.lane_look.specs.declared.lane.Ask.{Ask}
use Rattle.lane_look.specs.Replay.{Meaning, Entry, asked, after_begun}
use Rattle.lane_look.specs.Alone.{all_stored, begun_alone, alone, ends_now, ends_at}
use Rattle.rp_machine.specs.State.{State}
use Rattle.rp_machine.specs.Answers.{answer_of}
use Rattle.window_merge.specs.declared.walk.Walker.{Walker}
use Rattle.window_merge.specs.Lanes.{around}
use Rattle.window_merge.specs.Patch.{patched}
use Rattle.window_merge.specs.Judged.{DifferAt}

-- the state that the lane sees: the machine's, with the words that the lane wrote
abbrev pub seen_by : Walker → State
seen_by k = record k.machine.now { sram = patched k.words k.machine.now.sram }

-- the log begins with all that was asked; or differs from it first at that index
abbrev pub IsCompared : List Entry → List Entry → ℕ → Bool → Type 0
IsCompared log talk index true = (index ≡ length talk) × (take index log ≡ talk)
IsCompared log talk index false = (index < length talk) × DifferAt log talk index

-- what more was asked is compared too
abbrev pub GoesOn : List Entry → List Entry → ℕ → Bool → ℕ → Bool → Type 0
GoesOn log more index same index' same' =
    (talk : List Entry) → IsCompared log talk index same → IsCompared log (talk ++ more) index' same'

-- a question is answered
abbrev pub Answers : Walker → Ask → ℕ → Walker → Type 0
Answers old ask answer new =
    (answer ≡ answer_of old.lane (seen_by old) ask)
    × (new ≡ record old { index = new.index; same = new.same })
    × GoesOn old.log.now ((ask, answer) ∷ []) old.index old.same new.index new.same

-- one cycle, whether or not the run ends before it
pub record IsStepped {S B : Type 0} (m : Meaning (Unit {0}) S B) (cycle : ℕ) (lane lane' : S) (k k' : Walker) (ends : Bool) : Type 0 where
  pub is_end : ends ≡ ends_now m (around k.lane) tt cycle lane (seen_by k)
  pub is_state : lane' ≡ after_begun m tt lane (begun_alone m (around k.lane) tt cycle lane (seen_by k))
  pub is_around : seen_by k' ≡ all_stored (around k.lane) (seen_by k) (m.wanted (begun_alone m (around k.lane) tt cycle lane (seen_by k)))
  pub goes_on : GoesOn k.log.now (asked (answer_of k.lane (seen_by k)) (m.asks tt lane cycle)) k.index k.same k'.index k'.same
  pub same_lane : k'.lane ≡ k.lane
  pub same_log : k'.log ≡ k.log
  pub few : length k'.words ≤ length k.words + 2

-- some number below a bound meets a test
abbrev pub IsMet : (ℕ → Bool) → ℕ → Bool → Type 0
IsMet test bound true = (j : ℕ) × (j < bound) × (test j ≡ true)
IsMet test bound false = (j : ℕ) → j < bound → test j ≡ false

-- so many cycles from a state
pub record IsWalked {S B : Type 0} (m : Meaning (Unit {0}) S B) (before : S) (start : ℕ) (first : Walker) (cycles : ℕ) (lane : S) (k : Walker) (ended : Bool) : Type 0 where
  pub is_state : lane ≡ (alone m (around first.lane) tt before start (seen_by first) cycles).state
  pub is_around : seen_by k ≡ (alone m (around first.lane) tt before start (seen_by first) cycles).around
  pub is_compared : IsCompared first.log.now (alone m (around first.lane) tt before start (seen_by first) cycles).talk k.index k.same
  pub is_ended : IsMet (ends_at m (around first.lane) tt before start (seen_by first)) cycles ended
  pub same_lane : k.lane ≡ first.lane
  pub same_log : k.log ≡ first.log
  pub few : length k.words ≤ 2 * cycles

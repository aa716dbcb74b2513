-- What software sees of the mailboxes (RP2040 Datasheet, 2.3.1.4, Inter-processor FIFOs: 8 words in each direction) and of the
-- launcher (2.8.2, Launching Code On Processor Core 1).
use Rattle.std.specs.Prelude.{◌≡◌, ◌≢◌, ℕ, ◌-◌, ◌^◌, ◌<◌, Bool, not, nat_lt, if◌then◌else◌, List, [], ◌∷◌, ◌++◌, length, slice_get, Option, Some, None, unwrap_or}
use Rattle.sio_block.specs.Changes.{effect_of}
use Rattle.sio_block.specs.Cycle.{after_cycle}
use Rattle.sio_block.specs.Launcher.{after_turn}
use Rattle.sio_block.specs.State.{State, own_side}
use Rattle.sio_block.specs.Words.{word_of}

-- ---- a mailbox

-- in a cycle the one core writes a word to FIFO_WR (0x054), or the other one reads FIFO_RD (0x058)
pub data Post : Type 0 where
  Sends : (word : ℕ) → Post
  Takes : Post

-- the number of the core that sends, and of the one that takes
abbrev pub core_of : Bool → ℕ
core_of second = if second then 1 else 0

abbrev pub words_of : ℕ → State → List ℕ
words_of core s = (own_side core s).mailbox

abbrev pub posted : Bool → Post → State → State
posted second (Sends word) s = after_cycle (effect_of (core_of second) 0x054 (Some word) s)
posted second Takes s = after_cycle (effect_of (core_of (not second)) 0x058 None s)

abbrev pub all_posted : Bool → List Post → State → State
all_posted second [] s = s
all_posted second (p ∷ ps) s = all_posted second ps (posted second p s)

-- a word comes in where fewer than 8 are there, and what is read is given where there is a word
abbrev pub coming : Post → List ℕ → List ℕ
coming (Sends word) words = if nat_lt (length words) 8 then word ∷ [] else []
coming Takes words = []

abbrev pub given_by : Post → List ℕ → Option ℕ → List ℕ
given_by (Sends word) words read = []
given_by Takes words read = if nat_lt 0 (length words) then unwrap_or read 0 ∷ [] else []

abbrev pub came : Bool → List Post → State → List ℕ
came second [] s = []
came second (p ∷ ps) s = coming p (words_of (core_of (not second)) s) ++ came second ps (posted second p s)

abbrev pub given : Bool → List Post → State → List ℕ
given second [] s = []
given second (p ∷ ps) s =
    given_by p (words_of (core_of (not second)) s) (word_of (core_of (not second)) 0x058 0 s)
    ++ given second ps (posted second p s)

-- the words that were there and those that came are the words that were given, in this order, and those that are left
abbrev pub WordsStayInOrder : Type 0
WordsStayInOrder =
    (s : State) (second : Bool) (posts : List Post) →
    words_of (core_of (not second)) s ++ came second posts s
    ≡ given second posts s ++ words_of (core_of (not second)) (all_posted second posts s)

-- ---- the launcher

-- the words that are to come first; after three of them any word fits
abbrev pub first_words : List ℕ
first_words = 0 ∷ 0 ∷ 1 ∷ []

abbrev pub Fits : Option ℕ → ℕ → Type 0
Fits None w = Unit {0}
Fits (Some expected) w = w ≡ expected

abbrev pub DoesNotFit : Option ℕ → ℕ → Type 0
DoesNotFit None w = ⊥
DoesNotFit (Some expected) w = w ≢ expected

-- a word is taken from core 1's mailbox, and an answer joins core 0's
pub record Answers (s : State) (w answer : ℕ) (rest : List ℕ) : Type 0 where
  pub taken : words_of 1 (after_turn s) ≡ rest
  pub answered : words_of 0 (after_turn s) ≡ words_of 0 s ++ answer ∷ []

-- a word that fits is echoed, and another one answered by its complement, wherever there is room for the answer
pub record AnswersWord (s : State) (w : ℕ) (rest : List ℕ) : Type 0 where
  pub echo : Fits (slice_get first_words (length s.launched)) w → Answers s w w rest
  pub refusal : DoesNotFit (slice_get first_words (length s.launched)) w → Answers s w (2 ^ 32 - 1 - w) rest

abbrev pub TheLauncherAnswers : Type 0
TheLauncherAnswers =
    (s : State) (w : ℕ) (rest : List ℕ) → words_of 1 s ≡ w ∷ rest → length (words_of 0 s) < 8 → AnswersWord s w rest

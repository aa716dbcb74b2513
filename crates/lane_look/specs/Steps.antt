-- What a lane's step reads of its turns, and what a lane that never acts is.
use Rattle.std.specs.Prelude.{◌≡◌, ℕ, List, [], ◌∷◌}
use Rattle.lane_look.specs.declared.lane.Want.{Want}
use Rattle.lane_look.specs.declared.lane.Want.TheVariants as want
use Rattle.lane_look.specs.declared.lane.Turn.{Turn}
use Rattle.lane_look.specs.declared.lane.Turn.TheVariants as turn
use Rattle.lane_look.specs.Asking.{Asking}
use Rattle.lane_look.specs.Asking.Asking.{Ready}

-- a turn without its word where the access is to SRAM: a read has the word that the lane was told when it asked
abbrev pub without_word : Want → Turn → Turn
without_word (want.Ram request) (turn.Done word) = turn.Done 0
without_word want turn = turn

-- the turns of these wants, without the words of accesses to SRAM
abbrev pub without_words : List Want → List Turn → List Turn
without_words (want ∷ wants) (turn ∷ turns) = without_word want turn ∷ without_words wants turns
without_words wants turns = turns

-- a lane that never acts: in no cycle does it ask anything, want anything or change
abbrev pub NeverActs : {S B : Type 0} → (S → ℕ → Asking B) → (B → List Want) → (S → B → List Turn → S) → S → Type 0
NeverActs {S} {B} asks wanted next s =
    (cycle : ℕ) → (begun : B)
    × (asks s cycle ≡ Ready begun)
    × (wanted begun ≡ want.Nothing ∷ want.Nothing ∷ [])
    × ((turns : List Turn) → next s begun turns ≡ s)

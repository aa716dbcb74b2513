-- The twelve slots in the hands of the master.
use Rattle.std.specs.Prelude.{◌≡◌, ℕ, List, [], ◌∷◌}
use Rattle.turn_board.specs.Slots.{numbered}
use Rattle.turn_board.specs.declared.slot.Slot.{Slot}
use Rattle.turn_board.specs.declared.slot.Slot.TheVariants.{Empty}
use Rattle.turn_board.specs.declared.answers.Six.{Six}

module _ {J R : Type 0} where
  -- the master holds all slots, and the second ones have these values
  abbrev pub HoldsAll : List (ℕ × Slot J R) → Six (Slot J R) → Type 0
  HoldsAll in_hand s = (f0 f1 f2 f3 f4 f5 : Slot J R) × (in_hand ≡ numbered 0 (f0 ∷ s.l0 ∷ f1 ∷ s.l1 ∷ f2 ∷ s.l2 ∷ f3 ∷ s.l3 ∷ f4 ∷ s.l4 ∷ f5 ∷ s.l5 ∷ []))

  -- the twelve slots with these values in the first ones
  abbrev pub filled : Six (Slot J R) → List (ℕ × Slot J R)
  filled s = numbered 0 (s.l0 ∷ Empty ∷ s.l1 ∷ Empty ∷ s.l2 ∷ Empty ∷ s.l3 ∷ Empty ∷ s.l4 ∷ Empty ∷ s.l5 ∷ Empty ∷ [])

-- The interrupts of the engine by the words that software reads (RP2040 Datasheet, 2.5.7: INTR, INTE0 to INTS0 and INTE1 to INTS1).
use Rattle.std.specs.Prelude.{◌≡◌, ℕ, not, ◌==◌, [], ◌∷◌, Some, unwrap_or, bit_and, bit_or}
use Rattle.dma_engine.specs.State.{State}
use Rattle.dma_engine.specs.Words.{word_of, lines_of}

-- what a word reads as
abbrev pub read : ℕ → State → ℕ
read offset s = unwrap_or (word_of offset s) 0

-- INTS is INTR (0x400) where INTE enables it, and INTF whatever is enabled; a line is high where some bit of its INTS is set
pub record IsShown (s : State) : Type 0 where
  pub line_0 : word_of 0x40c s ≡ Some (bit_or (bit_and (read 0x400 s) (read 0x404 s)) (read 0x408 s))
  pub line_1 : word_of 0x41c s ≡ Some (bit_or (bit_and (read 0x400 s) (read 0x414 s)) (read 0x418 s))
  pub lines : lines_of s ≡ not (read 0x40c s == 0) ∷ not (read 0x41c s == 0) ∷ []

abbrev pub WhatIsEnabledOrForcedIsShown : Type 0
WhatIsEnabledOrForcedIsShown = (s : State) → IsShown s

-- The interrupts of a block by the words that software reads (RP2040 Datasheet, 3.7: INTR, IRQ0_INTE to IRQ1_INTS).
use Rattle.std.specs.Prelude.{◌≡◌, ℕ, not, ◌==◌, [], ◌∷◌, Some, unwrap_or, bit_and, bit_or}
use Rattle.pio_block.specs.State.{State}
use Rattle.pio_block.specs.Words.{word_of, lines_of}

-- what a word reads as
abbrev pub read : ℕ → State → ℕ
read offset s = unwrap_or (word_of offset s) 0

-- INTS is INTR (0x128) where INTE enables it, and INTF whatever is enabled; a line is high where some bit of its INTS is set
pub record IsShown (s : State) : Type 0 where
  pub line_0 : word_of 0x134 s ≡ Some (bit_or (bit_and (read 0x128 s) (read 0x12c s)) (read 0x130 s))
  pub line_1 : word_of 0x140 s ≡ Some (bit_or (bit_and (read 0x128 s) (read 0x138 s)) (read 0x13c s))
  pub lines : lines_of s ≡ not (read 0x134 s == 0) ∷ not (read 0x140 s == 0) ∷ []

abbrev pub WhatIsEnabledOrForcedIsShown : Type 0
WhatIsEnabledOrForcedIsShown = (s : State) → IsShown s

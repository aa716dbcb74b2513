-- The interrupts of the timer by the words that software reads (RP2040 Datasheet, 4.6.5: INTR, INTE, INTF and INTS).
use Rattle.std.specs.Prelude.{◌≡◌, ℕ, Some, unwrap_or, bit_and, bit_or}
use Rattle.rp_timer.specs.State.{State}
use Rattle.rp_timer.specs.Words.{word_of}

abbrev pub read : ℕ → State → ℕ
read offset s = unwrap_or (word_of offset s) 0

-- INTS (0x40) is INTR (0x34) where INTE (0x38) enables it, and INTF (0x3c) whatever is enabled
abbrev pub WhatIsEnabledOrForcedIsShown : Type 0
WhatIsEnabledOrForcedIsShown = (s : State) → word_of 0x40 s ≡ Some (bit_or (bit_and (read 0x34 s) (read 0x38 s)) (read 0x3c s))

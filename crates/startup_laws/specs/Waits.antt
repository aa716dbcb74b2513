-- The waits of a usual start-up (RP2040 Datasheet, 2.14.3, 2.15.7, 2.16.7, 2.18.4 and 4.7.6, Lists of Registers).
use Rattle.std.specs.Prelude.{◌≡◌, ◌<◌, ℕ, ◌-◌, ◌%◌, ◌^◌, length, Some}
use Rattle.rp_base.specs.Rows.{word_at, effect_at}
use Rattle.rp_machine.specs.State.{State}
use Rattle.rp_machine.specs.Registers.{resets_rows}
use Rattle.startup_blocks.specs.Laws.{OscillatorAndPllsAreReady, ClocksAreSelectedAtOnce, TheTickRunsAtOnce}

-- after a write of RESET, at offset 0, RESET_DONE, at offset 8, has a bit for each of the 25 blocks that is not held
abbrev pub WhatIsReleasedIsDone : Type 0
WhatIsReleasedIsDone =
    (s : State) (w : ℕ) → 0 < length s.resets
    → word_at resets_rows tt 8 (effect_at resets_rows 0 (Some w) s) ≡ Some (2 ^ 25 - 1 - w % 2 ^ 25)

pub record AStartUpWaitsForNothing : Type 0 where
  pub oscillator : OscillatorAndPllsAreReady
  pub clocks : ClocksAreSelectedAtOnce
  pub tick : TheTickRunsAtOnce
  pub blocks : WhatIsReleasedIsDone

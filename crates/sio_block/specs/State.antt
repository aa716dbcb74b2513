-- The single-cycle IO block (RP2040 Datasheet, 2.3.1, SIO).
use Rattle.std.specs.Prelude.{ℕ, ◌==◌, if◌then◌else◌, List, []}
use Rattle.sio_block.specs.declared.pins.Pins.{Pins}
use Rattle.sio_block.specs.declared.locks.Locks.{Locks}
use Rattle.sio_block.specs.declared.side.Side.{Side}
use Rattle.sio_block.specs.Pins.{pins_at_reset}
use Rattle.sio_block.specs.Locks.{locks_at_reset}
use Rattle.sio_block.specs.Side.{side_at_reset}

pub record State : Type 0 where
  pub pins : Pins
  pub locks : Locks
  -- what core 0 and core 1 have for themselves
  pub core0 : Side
  pub core1 : Side
  -- the words that the launcher of core 1 has taken in the order that it expects, at most 5
  pub launched : List ℕ

abbrev pub at_reset : State
at_reset =
    record {
      pins = pins_at_reset;
      locks = locks_at_reset;
      core0 = side_at_reset;
      core1 = side_at_reset;
      launched = [];
    }

-- the side of a core, and that of the other one
abbrev pub own_side : ℕ → State → Side
own_side core s = if core == 0 then s.core0 else s.core1

abbrev pub other_side : ℕ → State → Side
other_side core s = if core == 0 then s.core1 else s.core0

abbrev pub with_sides : ℕ → Side → Side → State → State
with_sides core own other s =
    if core == 0 then record s { core0 = own; core1 = other } else record s { core0 = other; core1 = own }

-- What parts do, in other words than their definitions.
use Rattle.std.specs.Prelude.{◌≡◌, ℕ, zero, suc, ◌+◌, ◌*◌, ◌^◌, ◌<◌, ◌==◌, List, [], ◌∷◌, take, drop, if◌then◌else◌}
use Rattle.std.specs.Int.{bit_at}
use Rattle.lane_look.specs.declared.device.Wires.{Wires}
use Rattle.lane_look.specs.Device.{DeviceMeaning, paired}
use Rattle.lane_look.specs.DeviceLaws.{DoTheSame}
use Rattle.board_parts.specs.declared.part.Drive.{Drive}
use Rattle.board_parts.specs.Button.{button}
use Rattle.board_parts.specs.Loop.{loop_back}
use Rattle.board_parts.specs.Part.{at_level, no_drive}
use Rattle.board_parts.specs.Parts.{Placed, parts_device, wires_of}
use Rattle.board_parts.specs.Shift.{shift}

-- ---- parts together

-- a device beside no parts does what it does alone
abbrev pub NoPartsAddNothing : Type 0
NoPartsAddNothing = (device : DeviceMeaning) → DoTheSame device (paired (parts_device []) device)

-- what a part drives alone, over its own words
abbrev pub drive_alone : Placed → List ℕ → ℕ → ℕ → Drive
drive_alone p state cycle pads = p.part.drives p.pins (take p.part.words state) cycle pads

-- a pin of some wires: what the first drives it has, and every other pin is as the rest have it
pub record IsFirst (first : Drive) (rest wires : Wires) (pin : ℕ) : Type 0 where
  pub driven : bit_at wires.mask pin ≡ (if bit_at first.mask pin == 1 then 1 else bit_at rest.mask pin)
  pub at : bit_at wires.level pin ≡ (if bit_at first.mask pin == 1 then bit_at first.level pin else bit_at rest.level pin)

-- a part before others drives its pins, at its levels, and every other pin is as the others have it
abbrev pub TheEarlierPartDrives : Type 0
TheEarlierPartDrives =
    (p : Placed) (others : List Placed) (state : List ℕ) (cycle pads pin : ℕ)
    → (drive_alone p state cycle pads).mask < 2 ^ 32 → pin < 32
    → IsFirst (drive_alone p state cycle pads) (wires_of others (drop p.part.words state) cycle pads) (wires_of (p ∷ others) state cycle pads) pin

-- ---- the three parts

-- a button is at a low level in the second half of each 100,000 cycles, and drives nothing in the first half
abbrev pub PressedInTheSecondHalf : Type 0
PressedInTheSecondHalf =
    (pin turn k pads : ℕ) → k < 50000
    → (button.drives (pin ∷ []) [] (100000 * turn + k) pads ≡ no_drive)
    × (button.drives (pin ∷ []) [] (100000 * turn + 50000 + k) pads ≡ at_level pin 0)

-- the state after some clocks, in each of which the pads have a low clock in one cycle and a high one in the next
abbrev pub after_clocks : List ℕ → (ℕ → ℕ) → (ℕ → ℕ) → ℕ → List ℕ → List ℕ
after_clocks pins low high zero state = state
after_clocks pins low high (suc n) state =
    shift.after_step pins (shift.after_step pins (after_clocks pins low high n state) 0 (low n)) 0 (high n)

-- the pads of a clock: it is low and then high, with this data
pub record Clocks (clock data_pin low high bit : ℕ) : Type 0 where
  pub is_low : bit_at low clock ≡ 0
  pub is_high : bit_at high clock ≡ 1
  pub has : bit_at high data_pin ≡ bit

-- after eight rising clocks the register has the eight bits of the data, the first of them as bit 7, which is the one that out shows
abbrev pub EightClocksFillTheRegister : Type 0
EightClocksFillTheRegister =
    (clock data_pin out register before cycle pads : ℕ) (low high bits : ℕ → ℕ)
    → ((n : ℕ) → Clocks clock data_pin (low n) (high n) (bits n))
    → let state = after_clocks (clock ∷ data_pin ∷ out ∷ []) low high 8 (register ∷ before ∷ []) in
    (state ≡ (128 * bits 0 + 64 * bits 1 + 32 * bits 2 + 16 * bits 3 + 8 * bits 4 + 4 * bits 5 + 2 * bits 6 + bits 7) ∷ 1 ∷ [])
    × (shift.drives (clock ∷ data_pin ∷ out ∷ []) state cycle pads ≡ at_level out (bits 0))

-- a wire drives its second pin alone, with the level that the first has in the pads
abbrev pub ALoopShowsItsFirstPin : Type 0
ALoopShowsItsFirstPin =
    (from to cycle pads pin : ℕ)
    → (bit_at (loop_back.drives (from ∷ to ∷ []) [] cycle pads).mask pin ≡ (if pin == to then 1 else 0))
    × (bit_at (loop_back.drives (from ∷ to ∷ []) [] cycle pads).level to ≡ bit_at pads from)

-- Parts side by side, as one device: their states are joined in the order of the list, each part's new state is its own function of its
-- own state, the cycle and the pads, and where two drive one pin the earlier one gives its level. The project's own.
use Rattle.std.specs.Prelude.{ℕ, ◌+◌, Bool, false, List, [], ◌∷◌, ◌++◌, take, drop}
use Rattle.std.specs.List.{list_all}
use Rattle.lane_look.specs.declared.device.Wires.{Wires}
use Rattle.lane_look.specs.Device.{DeviceMeaning, joined, no_wires}
use Rattle.board_parts.specs.declared.part.Drive.{Drive}
use Rattle.board_parts.specs.Part.{PartMeaning, are_pins}

-- a part with the pins that it is attached to
pub record Placed : Type 0 where
  pub pins : List ℕ
  pub part : PartMeaning

abbrev pub placed_at : List ℕ → PartMeaning → Placed
placed_at pins part = record { pins = pins; part = part }

-- whether each has its pins
abbrev pub all_placed : List Placed → Bool
all_placed parts = list_all (λ p. are_pins p.part.pins p.pins) parts

-- the words of all together
abbrev pub words_of : List Placed → ℕ
words_of [] = 0
words_of (p ∷ parts) = p.part.words + words_of parts

-- the states that their starts leave
abbrev pub first_of : List Placed → List ℕ
first_of [] = []
first_of (p ∷ parts) = p.part.first p.pins ++ first_of parts

-- what a part drives, as wires
abbrev pub wires_by : Drive → Wires
wires_by drive = record { mask = drive.mask; level = drive.level; pwm = 0; irq = 0 }

-- a part alone, as a device: it owns no address, and has no outputs on function 4 and no interrupt lines
abbrev pub part_device : Placed → DeviceMeaning
part_device p =
    record {
      count = p.part.words;
      first = λ state. p.part.first p.pins;
      covers = λ address. false;
      value = λ state address. 0;
      after_read = λ state address. state;
      after_write = λ state address value. state;
      wires = λ state cycle pads. wires_by (p.part.drives p.pins state cycle pads);
      after_step = p.part.after_step p.pins;
    }

-- what they drive together
abbrev pub wires_of : List Placed → List ℕ → ℕ → ℕ → Wires
wires_of [] state cycle pads = no_wires
wires_of (p ∷ parts) state cycle pads =
    joined (wires_by (p.part.drives p.pins (take p.part.words state) cycle pads)) (wires_of parts (drop p.part.words state) cycle pads)

-- the states after a cycle
abbrev pub states_after : List Placed → List ℕ → ℕ → ℕ → List ℕ
states_after [] state cycle pads = []
states_after (p ∷ parts) state cycle pads =
    p.part.after_step p.pins (take p.part.words state) cycle pads ++ states_after parts (drop p.part.words state) cycle pads

-- the device that they are together: it owns no address, and has no outputs on function 4 and no interrupt lines
abbrev pub parts_device : List Placed → DeviceMeaning
parts_device parts =
    record {
      count = words_of parts;
      first = λ state. first_of parts;
      covers = λ address. false;
      value = λ state address. 0;
      after_read = λ state address. state;
      after_write = λ state address value. state;
      wires = wires_of parts;
      after_step = states_after parts;
    }

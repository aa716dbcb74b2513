-- What a device does, as functions of its state, a list of words, and of what it is handed.
use Rattle.std.specs.Prelude.{ℕ, ◌+◌, Bool, false, ◌||◌, if◌then◌else◌, List, ◌++◌, take, drop, bit_and, bit_or}
use Rattle.std.specs.Int.{bit_not, w32}
use Rattle.lane_look.specs.declared.device.Wires.{Wires}

pub record DeviceMeaning : Type 0 where
  -- how many words its state has
  pub count : ℕ
  -- the state at the start of a run, by the words that are handed in
  pub first : List ℕ → List ℕ
  -- whether it owns an address
  pub covers : ℕ → Bool
  -- a read, by state and address: the word that it gives, and the state after it
  pub value : List ℕ → ℕ → ℕ
  pub after_read : List ℕ → ℕ → List ℕ
  -- a write, by state, address and value: the state after it
  pub after_write : List ℕ → ℕ → ℕ → List ℕ
  -- a cycle, by state, cycle number and pads: what it drives, and the state after the cycle
  pub wires : List ℕ → ℕ → ℕ → Wires
  pub after_step : List ℕ → ℕ → ℕ → List ℕ

-- ---- no device

abbrev pub no_wires : Wires
no_wires = record { mask = 0; level = 0; pwm = 0; irq = 0 }

abbrev pub no_device : DeviceMeaning
no_device =
    record {
      count = 0;
      first = λ state. state;
      covers = λ address. false;
      value = λ state address. 0;
      after_read = λ state address. state;
      after_write = λ state address value. state;
      wires = λ state cycle pads. no_wires;
      after_step = λ state cycle pads. state;
    }

-- ---- two devices

-- the levels of the pads: the first device's where it drives the pad, and elsewhere the second one's
abbrev pub joined_level : Wires → Wires → ℕ
joined_level a b = bit_or (bit_and a.level a.mask) (bit_and b.level (bit_not w32 a.mask))

-- what they drive together
abbrev pub joined : Wires → Wires → Wires
joined a b =
    record { mask = bit_or a.mask b.mask; level = joined_level a b; pwm = bit_or a.pwm b.pwm; irq = bit_or a.irq b.irq }

-- the first words of a state, which are the first device's, and the rest of them
abbrev pub front : DeviceMeaning → List ℕ → List ℕ
front a state = take a.count state

abbrev pub back : DeviceMeaning → List ℕ → List ℕ
back a state = drop a.count state

-- the two as one: the first device has the addresses that both own
abbrev pub paired : DeviceMeaning → DeviceMeaning → DeviceMeaning
paired a b =
    record {
      count = a.count + b.count;
      first = λ state. a.first (front a state) ++ b.first (back a state);
      covers = λ address. a.covers address || b.covers address;
      value = λ state address.
          if a.covers address then a.value (front a state) address else b.value (back a state) address;
      after_read = λ state address.
          if a.covers address
          then a.after_read (front a state) address ++ back a state
          else front a state ++ b.after_read (back a state) address;
      after_write = λ state address value.
          if a.covers address
          then a.after_write (front a state) address value ++ back a state
          else front a state ++ b.after_write (back a state) address value;
      wires = λ state cycle pads. joined (a.wires (front a state) cycle pads) (b.wires (back a state) cycle pads);
      after_step = λ state cycle pads.
          a.after_step (front a state) cycle pads ++ b.after_step (back a state) cycle pads;
    }

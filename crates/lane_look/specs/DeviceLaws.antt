-- What two devices do side by side, in other words than their definition.
use Rattle.std.specs.Prelude.{◌≡◌, ℕ, ◌^◌, ◌<◌, ◌==◌, List, if◌then◌else◌}
use Rattle.std.specs.Int.{bit_at}
use Rattle.lane_look.specs.declared.device.Wires.{Wires}
use Rattle.lane_look.specs.Device.{DeviceMeaning, joined, no_device, paired}

-- the level of a pad is the first device's where that one drives the pad, and else the second one's
abbrev pub TheFirstDeviceDrives : Type 0
TheFirstDeviceDrives =
    (a b : Wires) (pad : ℕ) → a.mask < 2 ^ 32 → pad < 32
    → bit_at (joined a b).level pad ≡ (if bit_at a.mask pad == 1 then bit_at a.level pad else bit_at b.level pad)

-- two devices do the same, where levels are words
pub record DoTheSame (d e : DeviceMeaning) : Type 0 where
  pub count : e.count ≡ d.count
  pub first : (state : List ℕ) → e.first state ≡ d.first state
  pub covers : (address : ℕ) → e.covers address ≡ d.covers address
  pub value : (state : List ℕ) (address : ℕ) → e.value state address ≡ d.value state address
  pub after_read : (state : List ℕ) (address : ℕ) → e.after_read state address ≡ d.after_read state address
  pub after_write : (state : List ℕ) (address value : ℕ) → e.after_write state address value ≡ d.after_write state address value
  pub wires : (state : List ℕ) (cycle pads : ℕ) → (d.wires state cycle pads).level < 2 ^ 32 → e.wires state cycle pads ≡ d.wires state cycle pads
  pub after_step : (state : List ℕ) (cycle pads : ℕ) → e.after_step state cycle pads ≡ d.after_step state cycle pads

-- a device beside one that is none does what it does alone
abbrev pub NoneAddsNothing : Type 0
NoneAddsNothing = (d : DeviceMeaning) → DoTheSame d (paired no_device d)

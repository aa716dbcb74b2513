-- For how long a device is quiet, and what it is after so many cycles.
use Rattle.std.specs.Prelude.{◌≡◌, ℕ, ◌+◌, ◌<◌, ◌≤◌, List, length}
use Rattle.lane_look.specs.Device.{DeviceMeaning}
use Rattle.lane_look.specs.Times.{times}

-- a cycle of its state, where the pads have these levels
abbrev pub device_step : DeviceMeaning → ℕ → ℕ → List ℕ → List ℕ
device_step d pads cycle state = d.after_step state cycle pads

-- its state after so many cycles from a first one on
abbrev pub device_after : DeviceMeaning → ℕ → ℕ → ℕ → List ℕ → List ℕ
device_after d pads first n state = times (device_step d pads) first n state

-- as long as the pads have these levels it drives in each of so many cycles what it drives in the first one, and its state keeps
-- its number of words
pub record IsDeviceQuiet (d : DeviceMeaning) (state : List ℕ) (cycle pads n : ℕ) : Type 0 where
  pub drives : (k : ℕ) → k < n → d.wires (device_after d pads cycle k state) (cycle + k) pads ≡ d.wires state cycle pads
  pub words : (k : ℕ) → k ≤ n → length (device_after d pads cycle k state) ≡ d.count

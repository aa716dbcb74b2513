-- The accesses of a core to the device outside (the project's own).
use Rattle.std.specs.Prelude.{ℕ, ◌/◌, ◌^◌, ◌==◌, ◌&&◌, Bool, if◌then◌else◌, List, Option, Some, None}
use Rattle.lane_look.specs.Device.{DeviceMeaning}
use Rattle.outer_lane.specs.Setting.{Setting}
use Rattle.outer_lane.specs.State.{State}
use Rattle.outer_lane.specs.Step.{is_fitting}

-- an address that no block of the machine covers may be the device's; a device that has another number of words than the
-- state holds for it owns nothing
abbrev pub is_owned : Setting → ℕ → State → Bool
is_owned w address s = is_fitting w.device s.device && (address / 2 ^ 28 == 4 && w.device.covers address)

-- the word that a read gives; None where the address is not the device's
unfoldable pub owned_word : Setting → ℕ → State → Option ℕ
owned_word w address s = if is_owned w address s then Some (w.device.value s.device address) else None

-- what an access does to the device
abbrev pub device_words : DeviceMeaning → ℕ → Option ℕ → List ℕ → List ℕ
device_words d address None words = d.after_read words address
device_words d address (Some value) words = d.after_write words address value

unfoldable pub device_accessed : Setting → ℕ → Option ℕ → State → State
device_accessed w address write s =
    if is_fitting w.device s.device then record s { device = device_words w.device address write s.device } else s

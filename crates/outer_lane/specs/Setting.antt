-- What a run is given (the project's own): the entries of its script, the device outside, and the cycle at which it ends.
use Rattle.std.specs.Prelude.{ℕ, List}
use Rattle.lane_look.specs.Device.{DeviceMeaning}
use Rattle.pin_script.specs.declared.entry.Entry.{Entry}
use Rattle.outer_lane.specs.declared.world.World.{World}

pub record Setting : Type 0 where
  pub script : List Entry
  pub device : DeviceMeaning
  pub limit : ℕ

abbrev pub setting_of : List Entry → DeviceMeaning → ℕ → Setting
setting_of script device limit = record { script = script; device = device; limit = limit }

-- what is given as one value, by what devices do
abbrev pub setting : {X : Type 0} → (X → DeviceMeaning) → World X → Setting
setting meaning w = record { script = w.script.now; device = meaning w.device.now; limit = w.limit }

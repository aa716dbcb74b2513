-- What the registers of a machine say, ready to be used (RP2040 Datasheet, 3.5.1 to 3.5.6 and 3.7).
use Rattle.std.specs.Prelude.{ℕ, ◌-◌, if◌then◌else◌}
use Rattle.pio_machine.specs.declared.machine.Machine1.{Machine1}
use Rattle.pio_machine.specs.declared.settings.Settings.{Settings}
use Rattle.pio_machine.specs.Fields.{divider, autopull, pull_threshold, side_enable, side_pindir, side_count, side_base, out_base, out_count, wrap_top, wrap_bottom, tx_depth}
use Rattle.pio_machine.specs.Operation.{side_pins}
use Rattle.pio_machine.specs.Pins.{pins_from}

-- under autopull the OSR is spent from this count on; without it from none that a count reaches
abbrev pub limit : Machine1 → ℕ
limit m = if autopull m then pull_threshold m else 256

abbrev pub settings_of : Machine1 → Settings
settings_of m =
    record {
      out_mask = pins_from (out_base m) (out_count m);
      limit = limit m;
      top = wrap_top m;
      bottom = wrap_bottom m;
      tx_depth = tx_depth m;
      period = divider m;
      delay_bits = 5 - side_count m;
      side_enable = side_enable m;
      side_pindir = side_pindir m;
      side_base = side_base m;
      side_mask = pins_from (side_base m) (side_pins m);
    }

use Rattle.std.proofs.Common.{refl}
use Rattle.rp_base.proofs.Rows.{listed}
use Rattle.startup_blocks.specs.Words.{clocks_rows, xosc_rows, pll_rows, watchdog_rows}
use Rattle.startup_blocks.proofs.laws.each_register_is_at_its_offset.Goals as goal

pub returns : goal.returns
returns c = record {
  clocks = listed clocks_rows refl;
  xosc = listed xosc_rows refl;
  pll_sys = listed (pll_rows 37) refl;
  pll_usb = listed (pll_rows 41) refl;
  watchdog = listed watchdog_rows refl;
}

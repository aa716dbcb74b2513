-- The start-up registers as a device: 46 words, which nothing but a write changes.
use Rattle.std.specs.Prelude.{ℕ, List, replicate, slice_set}
use Rattle.lane_look.specs.Device.{DeviceMeaning, no_wires}
use Rattle.startup_blocks.specs.Words.{is_word, read_at, write_at}

-- at the start CS of each PLL has REFDIV 1 and TICK has ENABLE set (RP2040 Datasheet, 2.18.4 and 4.7.6), and all else is 0
abbrev pub at_start : List ℕ
at_start = slice_set (slice_set (slice_set (replicate 46 0) 37 1) 41 1) 45 0x200

abbrev pub startup_device : DeviceMeaning
startup_device =
    record {
      count = 46;
      first = λ state. at_start;
      covers = is_word;
      value = λ state address. read_at address state;
      after_read = λ state address. state;
      after_write = λ state address value. write_at address value state;
      wires = λ state cycle pads. no_wires;
      after_step = λ state cycle pads. state;
    }

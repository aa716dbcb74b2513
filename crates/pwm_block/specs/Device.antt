-- The PWM block as a device: what each call does to its 68 words is what the call does to the block that they hold. The outputs and
-- the interrupt line are read off their words, which each call leaves as those of the block; a cycle in which no slice is enabled
-- leaves all words as they are but the levels of the pads.
use Rattle.std.specs.Prelude.{ℕ, ◌*◌, ◌/◌, ◌%◌, ◌^◌, ◌==◌, if◌then◌else◌, List, slice_index, slice_set}
use Rattle.lane_look.specs.Device.{DeviceMeaning}
use Rattle.lane_look.specs.declared.device.Wires.{Wires}
use Rattle.pwm_block.specs.State.{at_reset}
use Rattle.pwm_block.specs.Step.{after_step}
use Rattle.pwm_block.specs.Words.{is_pwm, read_at, write_at}
use Rattle.pwm_block.specs.Packing.{words_of, block_of}

abbrev pub packed_wires : List ℕ → Wires
packed_wires ws = record { mask = 0; level = 0; pwm = slice_index ws 64; irq = slice_index ws 65 / 2 ^ 8 % 2 * 2 ^ 4 }

abbrev pub packed_step : ℕ → List ℕ → List ℕ
packed_step pads ws =
    if slice_index ws 65 % 2 ^ 8 == 0 then slice_set ws 66 pads else words_of (after_step pads (block_of ws))

abbrev pub pwm_device : DeviceMeaning
pwm_device =
    record {
      count = 68;
      first = λ state. words_of at_reset;
      covers = is_pwm;
      value = λ state address. read_at address (block_of state);
      after_read = λ state address. state;
      after_write = λ state address value. words_of (write_at address value (block_of state));
      wires = λ state cycle pads. packed_wires state;
      after_step = λ state cycle pads. packed_step pads state;
    }

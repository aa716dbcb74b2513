-- OUT and SET (RP2040 Datasheet, 3.4.5, 3.4.10 and 3.5.4).
use Rattle.std.specs.Prelude.{ℕ, ◌%◌, ◌^◌, Bool, ◌&&◌, if◌then◌else◌, List, [], ◌∷◌, min}
use Rattle.pio_words.specs.declared.op.OutDestination.{OutDestination}
use Rattle.pio_words.specs.declared.op.OutDestination.TheVariants as out
use Rattle.pio_words.specs.declared.op.SetDestination.{SetDestination}
use Rattle.pio_words.specs.declared.op.SetDestination.TheVariants as set
use Rattle.pio_machine.specs.declared.machine.Machine1.{Machine1}
use Rattle.pio_machine.specs.declared.machine.Done.{Done}
use Rattle.pio_machine.specs.Ending.{Ending}
use Rattle.pio_machine.specs.Ending.Ending.{Completed, Jumped, Executes}
use Rattle.pio_machine.specs.Bits.{taken, remaining, counted}
use Rattle.pio_machine.specs.Fields.{out_right, out_base, out_count, set_base, set_count, autopull}
use Rattle.pio_machine.specs.Pins.{with_levels, with_enables}
use Rattle.pio_machine.specs.Queue.{Try, stalled, loaded, is_spent, refilled, with_tx_stall}

-- ---- OUT

abbrev pub out_value : ℕ → Machine1 → ℕ
out_value count m = taken (out_right m) count m.osr

abbrev pub shifted_out : ℕ → Machine1 → Machine1
shifted_out count m = record m {
  osr = remaining (out_right m) count m.osr;
  osr_count = counted m.osr_count count;
}

-- a register takes the bits; the ISR's count is theirs, and it is not pushed
abbrev pub with_out : OutDestination → ℕ → ℕ → Machine1 → Machine1
with_out out.X value count m = record m { x = value }
with_out out.Y value count m = record m { y = value }
with_out out.Isr value count m = record m { isr = value; isr_count = count }
with_out _ value count m = m

abbrev pub ending_of_out : OutDestination → ℕ → Ending
ending_of_out out.Pc value = Jumped (value % 32)
ending_of_out out.Exec value = Executes (value % 2 ^ 16)
ending_of_out _ value = Completed

-- under autopull an OUT of a spent OSR stalls; a word that waits is loaded then, and that none does is told
abbrev pub out_stalls : Machine1 → Bool
out_stalls m = autopull m && is_spent m

abbrev pub starved : List ℕ → Machine1 → Machine1
starved [] m = with_tx_stall m
starved (word ∷ rest) m = loaded m

abbrev pub out_done : OutDestination → ℕ → Machine1 → Try
out_done destination count m =
    record {
      machine = refilled (with_out destination (out_value count m) count (shifted_out count m));
      ending = ending_of_out destination (out_value count m);
    }

unfoldable pub try_out : OutDestination → ℕ → Machine1 → Try
try_out destination count m =
    if out_stalls m then stalled (starved m.tx m) else out_done destination (min count 32) m

-- the pins or their enables
abbrev pub out_pins : OutDestination → ℕ → Machine1 → Done → Done
out_pins out.Pins value m d = with_levels (out_base m) (out_count m) value d
out_pins out.Pindirs value m d = with_enables (out_base m) (out_count m) value d
out_pins _ value m d = d

unfoldable pub written_by_out : OutDestination → ℕ → Machine1 → Done → Done
written_by_out destination count m d =
    if out_stalls m then d else out_pins destination (out_value (min count 32) m) m d

-- ---- SET

abbrev pub after_set : SetDestination → ℕ → Machine1 → Machine1
after_set set.X value m = record m { x = value }
after_set set.Y value m = record m { y = value }
after_set _ value m = m

abbrev pub written_by_set : SetDestination → ℕ → Machine1 → Done → Done
written_by_set set.Pins value m d = with_levels (set_base m) (set_count m) value d
written_by_set set.Pindirs value m d = with_enables (set_base m) (set_count m) value d
written_by_set _ value m d = d

-- MOV (RP2040 Datasheet, 3.4.8).
use Rattle.std.specs.Prelude.{ℕ, ◌-◌, ◌%◌, ◌^◌, nat_lt, if◌then◌else◌, length}
use Rattle.std.specs.Int.{w32, bit_not, reverse_bits}
use Rattle.pio_words.specs.declared.op.MovSource.{MovSource}
use Rattle.pio_words.specs.declared.op.MovSource.TheVariants as source
use Rattle.pio_words.specs.declared.op.MovOperation.{MovOperation}
use Rattle.pio_words.specs.declared.op.MovOperation.TheVariants.{Plain, Invert, Reverse}
use Rattle.pio_words.specs.declared.op.MovDestination.{MovDestination}
use Rattle.pio_words.specs.declared.op.MovDestination.TheVariants as destination
use Rattle.pio_machine.specs.declared.machine.Machine1.{Machine1}
use Rattle.pio_machine.specs.declared.machine.Seen.{Seen}
use Rattle.pio_machine.specs.declared.machine.Done.{Done}
use Rattle.pio_machine.specs.Ending.{Ending}
use Rattle.pio_machine.specs.Ending.Ending.{Completed, Jumped, Executes}
use Rattle.pio_machine.specs.Fields.{status_of_rx, status_level, out_base, out_count}
use Rattle.pio_machine.specs.Pins.{mapped_inputs, with_levels}
use Rattle.pio_machine.specs.Queue.{Try, with_osr}

-- all ones where the chosen FIFO has fewer words than STATUS_N
abbrev pub status : Machine1 → ℕ
status m =
    if nat_lt (if status_of_rx m then length m.rx else length m.tx) (status_level m) then 2 ^ 32 - 1 else 0

abbrev pub mov_source : MovSource → Seen → Machine1 → ℕ
mov_source source.Pins seen m = mapped_inputs seen m
mov_source source.X seen m = m.x
mov_source source.Y seen m = m.y
mov_source source.Null seen m = 0
mov_source source.Status seen m = status m
mov_source source.Isr seen m = m.isr
mov_source source.Osr seen m = m.osr

abbrev pub mov_changed : MovOperation → ℕ → ℕ
mov_changed Plain word = word
mov_changed Invert word = bit_not w32 word
mov_changed Reverse word = reverse_bits w32 word

unfoldable pub mov_value : MovOperation → MovSource → Seen → Machine1 → ℕ
mov_value operation source seen m = mov_changed operation (mov_source source seen m)

-- a shift register that is written is full or empty: its count is 0
abbrev pub with_moved : MovDestination → ℕ → Machine1 → Machine1
with_moved destination.X value m = record m { x = value }
with_moved destination.Y value m = record m { y = value }
with_moved destination.Isr value m = record m { isr = value; isr_count = 0 }
with_moved destination.Osr value m = with_osr value m
with_moved _ value m = m

abbrev pub ending_of_mov : MovDestination → ℕ → Ending
ending_of_mov destination.Pc value = Jumped (value % 32)
ending_of_mov destination.Exec value = Executes (value % 2 ^ 16)
ending_of_mov _ value = Completed

abbrev pub try_mov : MovDestination → ℕ → Machine1 → Try
try_mov destination value m =
    record { machine = with_moved destination value m; ending = ending_of_mov destination value }

-- the pins are those of OUT
abbrev pub written_by_mov : MovDestination → ℕ → Machine1 → Done → Done
written_by_mov destination.Pins value m d = with_levels (out_base m) (out_count m) value d
written_by_mov _ value m d = d

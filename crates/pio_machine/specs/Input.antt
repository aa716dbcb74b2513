-- IN and autopush (RP2040 Datasheet, 3.4.4 and 3.5.4).
use Rattle.std.specs.Prelude.{ℕ, Bool, ◌&&◌, nat_le, if◌then◌else◌, min}
use Rattle.pio_words.specs.declared.op.InSource.{InSource}
use Rattle.pio_words.specs.declared.op.InSource.TheVariants.{Pins, X, Y, Null, Isr, Osr}
use Rattle.pio_machine.specs.declared.machine.Machine1.{Machine1}
use Rattle.pio_machine.specs.declared.machine.Seen.{Seen}
use Rattle.pio_machine.specs.Bits.{entered, counted}
use Rattle.pio_machine.specs.Fields.{in_right, autopush, push_threshold, is_rx_full}
use Rattle.pio_machine.specs.Pins.{mapped_inputs}
use Rattle.pio_machine.specs.Progress.{progress_of, with_shifted}
use Rattle.pio_machine.specs.Queue.{Try, completed, stalled, with_rx_stall, pushed}

abbrev pub in_value : InSource → Seen → Machine1 → ℕ
in_value Pins seen m = mapped_inputs seen m
in_value X seen m = m.x
in_value Y seen m = m.y
in_value Null seen m = 0
in_value Isr seen m = m.isr
in_value Osr seen m = m.osr

-- the bits enter the ISR
abbrev pub shifted_in : ℕ → ℕ → Machine1 → Machine1
shifted_in value count m = record m {
  isr = entered (in_right m) count value m.isr;
  isr_count = counted m.isr_count count;
}

-- an IN that stalled has shifted already
abbrev pub shifted_once : InSource → ℕ → Seen → Machine1 → Machine1
shifted_once source count seen m =
    if (progress_of m).shifted then m else shifted_in (in_value source seen m) (min count 32) m

-- autopush: an ISR that reached its threshold is pushed, and waits where the RX FIFO is full
abbrev pub is_autopush_due : Machine1 → Bool
is_autopush_due m = autopush m && nat_le (push_threshold m) m.isr_count

abbrev pub autopushed : Machine1 → Try
autopushed m =
    if is_autopush_due m
    then (if is_rx_full m
    then stalled (with_rx_stall (with_shifted m))
    else completed (pushed m))
    else completed m

unfoldable pub try_in : InSource → ℕ → Seen → Machine1 → Try
try_in source count seen m = autopushed (shifted_once source count seen m)

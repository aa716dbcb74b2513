-- The interrupt flags: WAIT and IRQ (RP2040 Datasheet, 3.4.3 and 3.4.9).
use Rattle.std.specs.Prelude.{ℕ, ◌+◌, ◌*◌, ◌/◌, ◌%◌, ◌^◌, Bool, false, true, not, if◌then◌else◌, bit_or}
use Rattle.rp_base.specs.Word.{has_bit}
use Rattle.pio_words.specs.declared.op.IrqIndex.{IrqIndex}
use Rattle.pio_words.specs.declared.op.WaitSource.{WaitSource}
use Rattle.pio_words.specs.declared.op.WaitSource.TheVariants.{Gpio, Pin, Irq}
use Rattle.pio_machine.specs.declared.machine.Machine1.{Machine1}
use Rattle.pio_machine.specs.declared.machine.Seen.{Seen}
use Rattle.pio_machine.specs.declared.machine.Done.{Done}
use Rattle.pio_machine.specs.Ending.{Ending}
use Rattle.pio_machine.specs.Ending.Ending.{Stalled, Completed}
use Rattle.pio_machine.specs.Pins.{input_word, mapped_inputs}
use Rattle.pio_machine.specs.Progress.{progress_of, with_raised}

-- one of eight flags; a relative index adds the machine's number to its two low bits, modulo 4
abbrev pub flag_of : IrqIndex → ℕ → ℕ
flag_of index number =
    if index.relative then index.number / 4 % 2 * 4 + (index.number % 4 + number) % 4 else index.number % 8

abbrev pub with_set : ℕ → Done → Done
with_set flag d = record d { set = bit_or d.set (2 ^ flag) }

abbrev pub with_clear : ℕ → Done → Done
with_clear flag d = record d { clear = bit_or d.clear (2 ^ flag) }

-- ---- WAIT

-- what a WAIT looks at, which is high
abbrev pub is_high : WaitSource → ℕ → Seen → Machine1 → Bool
is_high (Gpio n) number seen m = has_bit (input_word seen) (n % 32)
is_high (Pin n) number seen m = has_bit (mapped_inputs seen m) (n % 32)
is_high (Irq index) number seen m = has_bit seen.flags (flag_of index number)

abbrev pub is_met : Bool → WaitSource → ℕ → Seen → Machine1 → Bool
is_met polarity source number seen m =
    if polarity then is_high source number seen m else not (is_high source number seen m)

abbrev pub ending_of_wait : Bool → WaitSource → ℕ → Seen → Machine1 → Ending
ending_of_wait polarity source number seen m = if is_met polarity source number seen m then Completed else Stalled

-- a flag that was waited for is cleared
abbrev pub cleared_by : WaitSource → ℕ → Done → Done
cleared_by (Irq index) number d = with_clear (flag_of index number) d
cleared_by _ number d = d

abbrev pub written_by_wait : Bool → WaitSource → ℕ → Seen → Machine1 → Done → Done
written_by_wait polarity source number seen m d =
    if polarity then (if is_high source number seen m then cleared_by source number d else d) else d

-- ---- IRQ

-- with Wait the flag is raised once, and then the word stalls until it is clear
abbrev pub waits_for_clear : Bool → Bool → ℕ → Seen → Machine1 → Bool
waits_for_clear clear wait flag seen m =
    if clear then false else if wait then (if (progress_of m).raised then has_bit seen.flags flag else true) else false

abbrev pub ending_of_irq : Bool → Bool → ℕ → Seen → Machine1 → Ending
ending_of_irq clear wait flag seen m = if waits_for_clear clear wait flag seen m then Stalled else Completed

-- while it stalls it has raised the flag
abbrev pub after_irq : Bool → Bool → ℕ → Seen → Machine1 → Machine1
after_irq clear wait flag seen m = if waits_for_clear clear wait flag seen m then with_raised m else m

abbrev pub written_by_irq : Bool → Bool → ℕ → Machine1 → Done → Done
written_by_irq clear wait flag m d =
    if clear then with_clear flag d else
    if wait then (if (progress_of m).raised then d else with_set flag d) else with_set flag d

-- JMP (RP2040 Datasheet, 3.4.2).
use Rattle.std.specs.Prelude.{ℕ, ◌+◌, ◌-◌, ◌%◌, ◌^◌, Bool, true, not, ◌==◌, nat_lt, if◌then◌else◌}
use Rattle.rp_base.specs.Word.{has_bit}
use Rattle.pio_words.specs.declared.op.JmpCondition.{JmpCondition}
use Rattle.pio_words.specs.declared.op.JmpCondition.TheVariants.{Always, XZero, XDecrement, YZero, YDecrement, XNotY, Pin, OsrNotEmpty}
use Rattle.pio_machine.specs.declared.machine.Machine1.{Machine1}
use Rattle.pio_machine.specs.declared.machine.Seen.{Seen}
use Rattle.pio_machine.specs.Ending.{Ending}
use Rattle.pio_machine.specs.Ending.Ending.{Completed, Jumped}
use Rattle.pio_machine.specs.Fields.{jmp_pin, pull_threshold}
use Rattle.pio_machine.specs.Pins.{input_word}

-- X and Y are compared as they are before the decrement
abbrev pub is_taken : JmpCondition → Seen → Machine1 → Bool
is_taken Always seen m = true
is_taken XZero seen m = m.x == 0
is_taken XDecrement seen m = not (m.x == 0)
is_taken YZero seen m = m.y == 0
is_taken YDecrement seen m = not (m.y == 0)
is_taken XNotY seen m = not (m.x == m.y)
is_taken Pin seen m = has_bit (input_word seen) (jmp_pin m)
is_taken OsrNotEmpty seen m = nat_lt m.osr_count (pull_threshold m)

abbrev pub decremented : ℕ → ℕ
decremented word = (word + (2 ^ 32 - 1)) % 2 ^ 32

-- the decrement is done whether or not the jump is taken
abbrev pub after_jmp : JmpCondition → Machine1 → Machine1
after_jmp XDecrement m = record m { x = decremented m.x }
after_jmp YDecrement m = record m { y = decremented m.y }
after_jmp _ m = m

abbrev pub ending_of_jmp : JmpCondition → ℕ → Seen → Machine1 → Ending
ending_of_jmp condition address seen m = if is_taken condition seen m then Jumped (address % 32) else Completed

-- What a write to SMn_INSTR comes to (RP2040 Datasheet, 3.5.7, Forced and EXEC'd instructions, and 3.7, SM0_INSTR).
use Rattle.std.specs.Prelude.{◌≡◌, ℕ, ◌+◌, ◌*◌, ◌%◌, ◌^◌, ◌<◌, Some, length}
use Rattle.pio_machine.specs.declared.machine.Seen.{Seen}
use Rattle.pio_machine.specs.Cycle.{word_tried}
use Rattle.pio_block.specs.State.{State, machine_of}
use Rattle.pio_block.specs.Words.{after_any}

-- the low half of what is written to SMn_INSTR, at 0xd8 and 0x18 bytes apart, is the word that machine n tries in the next cycle,
-- whether it is enabled or not
abbrev pub AWrittenWordComesNext : Type 0
AWrittenWordComesNext =
    (s : State) (n w : ℕ) (seen : Seen) → n < 4 → length s.machines ≡ 4 →
    word_tried seen (machine_of n (after_any (0xd8 + 0x18 * n) (Some w) s).machines) ≡ Some (w % 2 ^ 16)

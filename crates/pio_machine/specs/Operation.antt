-- A try of an instruction word: its operation, autopull, its side-set, and how it ends (RP2040 Datasheet, 3.4.1, 3.5.1, 3.5.2
-- and 3.5.4).
use Rattle.std.specs.Prelude.{ℕ, ◌-◌, ◌/◌, ◌%◌, ◌+◌, ◌^◌, Bool, true, false, not, ◌||◌, ◌==◌, if◌then◌else◌, Option, Some, None}
use Rattle.rp_base.specs.Word.{has_bit}
use Rattle.pio_words.specs.declared.op.MovDestination.{MovDestination}
use Rattle.pio_words.specs.declared.op.MovDestination.TheVariants as destination
use Rattle.pio_words.specs.declared.op.PioOp.{PioOp}
use Rattle.pio_words.specs.declared.op.PioOp.TheVariants.{Jmp, Wait, In, Out, Push, Pull, Mov, Irq, Set, Reserved}
use Rattle.pio_machine.specs.declared.machine.Machine1.{Machine1}
use Rattle.pio_machine.specs.declared.machine.Seen.{Seen}
use Rattle.pio_machine.specs.declared.machine.Done.{Done}
use Rattle.pio_machine.specs.declared.machine.Waiting.{Waiting}
use Rattle.pio_machine.specs.Ending.{Ending}
use Rattle.pio_machine.specs.Ending.Ending.{Stalled, Completed, Jumped, Executes}
use Rattle.pio_machine.specs.Fields.{side_enable, side_pindir, side_count, side_base, wrap_top, wrap_bottom}
use Rattle.pio_machine.specs.Pins.{with_levels, with_enables}
use Rattle.pio_machine.specs.Progress.{untried, executed}
use Rattle.pio_machine.specs.Queue.{Try, completed, try_push, try_pull, refilled}
use Rattle.pio_machine.specs.Flags.{flag_of, ending_of_wait, written_by_wait, ending_of_irq, after_irq, written_by_irq}
use Rattle.pio_machine.specs.Jump.{after_jmp, ending_of_jmp}
use Rattle.pio_machine.specs.Input.{try_in}
use Rattle.pio_machine.specs.Output.{try_out, written_by_out, after_set, written_by_set}
use Rattle.pio_machine.specs.Move.{mov_value, try_mov, written_by_mov}

-- ---- the operation

-- what it does to the machine, and how it ends; a reserved word copies Y to Y (the project's own)
abbrev pub tried : PioOp → ℕ → Seen → Machine1 → Try
tried (Jmp condition address) number seen m =
    record { machine = after_jmp condition m; ending = ending_of_jmp condition address seen m }
tried (Wait polarity source) number seen m =
    record { machine = m; ending = ending_of_wait polarity source number seen m }
tried (In source count) number seen m = try_in source count seen m
tried (Out destination count) number seen m = try_out destination count m
tried (Push if_full block) number seen m = try_push if_full block m
tried (Pull if_empty block) number seen m = try_pull if_empty block m
tried (Mov destination operation source) number seen m = try_mov destination (mov_value operation source seen m) m
tried (Irq clear wait index) number seen m =
    record {
      machine = after_irq clear wait (flag_of index number) seen m;
      ending = ending_of_irq clear wait (flag_of index number) seen m;
    }
tried (Set destination value) number seen m = completed (after_set destination value m)
tried Reserved number seen m = completed m

-- what it writes to pins and flags
abbrev pub written : PioOp → ℕ → Seen → Machine1 → Done → Done
written (Wait polarity source) number seen m d = written_by_wait polarity source number seen m d
written (Out destination count) number seen m d = written_by_out destination count m d
written (Mov destination operation source) number seen m d =
    written_by_mov destination (mov_value operation source seen m) m d
written (Irq clear wait index) number seen m d = written_by_irq clear wait (flag_of index number) m d
written (Set destination value) number seen m d = written_by_set destination value m d
written _ number seen m d = d

-- ---- autopull

abbrev pub is_osr : MovDestination → Bool
is_osr destination.Osr = true
is_osr _ = false

-- the operations that load the OSR themselves
abbrev pub loads_osr : PioOp → Bool
loads_osr (Out destination count) = true
loads_osr (Pull if_empty block) = true
loads_osr (Mov destination operation source) = is_osr destination
loads_osr _ = false

-- all others, whether they stall or not, leave a spent OSR to autopull
abbrev pub with_autopull : PioOp → Machine1 → Machine1
with_autopull op m = if loads_osr op then m else refilled m

-- ---- side-set and delay, in bits 12:8 of a word

-- the upper bits are for side-set, the enable bit among them, and the others are a delay
abbrev pub side_field : ℕ → ℕ
side_field word = word / 2 ^ 8 % 2 ^ 5

abbrev pub delay_of : ℕ → Machine1 → ℕ
delay_of word m = side_field word % 2 ^ (5 - side_count m)

abbrev pub side_value : ℕ → Machine1 → ℕ
side_value word m = side_field word / 2 ^ (5 - side_count m)

abbrev pub has_side : ℕ → Machine1 → Bool
has_side word m = not (side_enable m) || has_bit word 12

abbrev pub side_pins : Machine1 → ℕ
side_pins m = if side_enable m then side_count m - 1 else side_count m

unfoldable pub with_side : ℕ → Machine1 → Done → Done
with_side word m d =
    if has_side word m
    then (if side_pindir m
    then with_enables (side_base m) (side_pins m) (side_value word m) d
    else with_levels (side_base m) (side_pins m) (side_value word m) d)
    else d

-- ---- the end

-- the word at PC is followed by the one at the next address, that at WRAP_TOP by that at WRAP_BOTTOM (3.5.2), which was not
-- tried yet; a waiting word is gone
abbrev pub next_address : Machine1 → ℕ
next_address m = if m.pc == wrap_top m then wrap_bottom m else (m.pc % 32 + 1) % 32

-- whoever sets PC, the word there was not tried yet
abbrev pub with_pc : ℕ → Machine1 → Machine1
with_pc address m = record m { pc = address; progress = untried }

abbrev pub stepped_past : Option Waiting → Machine1 → Machine1
stepped_past None m = with_pc (next_address m) m
stepped_past (Some w) m = record m { waiting = None }

abbrev pub stepped : Machine1 → Machine1
stepped m = stepped_past m.waiting m

abbrev pub jumped : ℕ → Machine1 → Machine1
jumped address m = record (with_pc address m) { waiting = None }

abbrev pub with_delay : ℕ → Machine1 → Machine1
with_delay delay m = record m { delay = delay }

abbrev pub with_waiting : Waiting → Machine1 → Machine1
with_waiting w m = record m { waiting = Some w }

-- nothing more happens at a stall; a word that gives another one to be executed sets no delay
unfoldable pub ended : ℕ → Ending → Machine1 → Machine1
ended delay Stalled m = m
ended delay Completed m = with_delay delay (stepped m)
ended delay (Jumped address) m = with_delay delay (jumped address m)
ended delay (Executes word) m = with_waiting (executed word) (stepped m)

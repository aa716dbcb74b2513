-- A cycle of a machine (RP2040 Datasheet, 3.5.5, the clock divider, 3.5.1, delay, and 3.5.7, forced and executed instructions).
use Rattle.std.specs.Prelude.{ℕ, ◌+◌, ◌-◌, ◌%◌, Bool, ◌&&◌, ◌||◌, ◌==◌, nat_lt, if◌then◌else◌, Option, Some, None, slice_index}
use Rattle.pio_words.specs.declared.op.PioOp.{PioOp}
use Rattle.pio_words.specs.Operation.{operation_of}
use Rattle.pio_machine.specs.declared.machine.Machine1.{Machine1}
use Rattle.pio_machine.specs.declared.machine.Seen.{Seen}
use Rattle.pio_machine.specs.declared.machine.Done.{Done}
use Rattle.pio_machine.specs.declared.machine.Waiting.{Waiting}
use Rattle.pio_machine.specs.Fields.{divider}
use Rattle.pio_machine.specs.Queue.{refilled}
use Rattle.pio_machine.specs.Operation.{tried, written, with_autopull, with_side, delay_of, ended}

-- ---- a try of a word

-- the machine after the operation and autopull
abbrev pub worked : PioOp → ℕ → Seen → Machine1 → Machine1
worked op number seen m = with_autopull op (tried op number seen m).machine

abbrev pub after_op : ℕ → PioOp → ℕ → Seen → Machine1 → Machine1
after_op word op number seen m =
    ended (delay_of word (worked op number seen m)) (tried op number seen m).ending (worked op number seen m)

-- the side-set comes at each try, and wins over the operation
abbrev pub written_with_side : ℕ → PioOp → ℕ → Seen → Machine1 → Done → Done
written_with_side word op number seen m d = with_side word (worked op number seen m) (written op number seen m d)

unfoldable pub after_try : ℕ → ℕ → Seen → Machine1 → Machine1
after_try word number seen m = after_op word (operation_of word) number seen m

unfoldable pub written_by_try : ℕ → ℕ → Seen → Machine1 → Done → Done
written_by_try word number seen m d = written_with_side word (operation_of word) number seen m d

-- ---- the divider

-- the machine ticks in a cycle that begins below 256
abbrev pub ticks : Machine1 → Bool
ticks m = m.enabled && nat_lt m.acc 256

abbrev pub divided : Machine1 → ℕ
divided m = if nat_lt m.acc 256 then m.acc + divider m - 256 else m.acc - 256

abbrev pub advanced : Machine1 → Machine1
advanced m = if m.enabled then record m { acc = divided m } else m

-- ---- the cycle

-- the word that is tried in a cycle, if any: one that was written to INSTR in each cycle, enabled or not; one that another
-- word gave in each tick; and where none waits, the one at PC in each tick after the delay
abbrev pub word_of : Option Waiting → Seen → Machine1 → Option ℕ
word_of (Some w) seen m = if w.forced || ticks m then Some w.word else None
word_of None seen m = if ticks m && (m.delay == 0) then Some (slice_index seen.memory (m.pc % 32)) else None

unfoldable pub word_tried : Seen → Machine1 → Option ℕ
word_tried seen m = word_of m.waiting seen m

-- a tick in which no word is tried passes one of the delay
abbrev pub delayed : Machine1 → Machine1
delayed m = refilled (record m { delay = m.delay - 1 })

abbrev pub passed : Bool → Machine1 → Machine1
passed ticked m = if ticked then delayed m else m

abbrev pub after_word : Option ℕ → Bool → ℕ → Seen → Machine1 → Machine1
after_word None ticked number seen m = passed ticked m
after_word (Some word) ticked number seen m = after_try word number seen m

abbrev pub written_by_word : Option ℕ → ℕ → Seen → Machine1 → Done → Done
written_by_word None number seen m d = d
written_by_word (Some word) number seen m d = written_by_try word number seen m d

-- the machine after a cycle, and what it writes in it
unfoldable pub after_cycle : ℕ → Seen → Machine1 → Machine1
after_cycle number seen m = after_word (word_tried seen m) (ticks m) number seen (advanced m)

unfoldable pub written_in_cycle : ℕ → Seen → Machine1 → Done → Done
written_in_cycle number seen m d = written_by_word (word_tried seen m) number seen (advanced m) d

-- Laws of a word from its first try to its last (RP2040 Datasheet, 3.4.4, 3.4.9, 3.5.4 and 3.5.7).
use Rattle.std.specs.Prelude.{◌≡◌, ℕ, ◌-◌, ◌/◌, ◌%◌, ◌^◌, ◌<◌, ◌≤◌, true, false, Some, None}
use Rattle.pio_words.specs.declared.op.PioOp.{PioOp}
use Rattle.pio_machine.specs.declared.machine.Machine1.{Machine1}
use Rattle.pio_machine.specs.declared.machine.Seen.{Seen}
use Rattle.pio_machine.specs.declared.machine.Waiting.{Waiting}
use Rattle.pio_machine.specs.Bits.{entered}
use Rattle.pio_machine.specs.Ending.Ending.{Stalled, Completed, Jumped, Executes}
use Rattle.pio_machine.specs.Operation.{tried, ended}
use Rattle.pio_machine.specs.Progress.{progress_of, forced}
use Rattle.pio_machine.specs.Start.{at_reset, restarted}
use Rattle.pio_machine.specs.Cycle.{word_tried, after_op}

-- ---- a word begins untried

-- nothing was raised and nothing shifted for the word that is tried next
pub record IsUntried (m : Machine1) : Type 0 where
  pub raised : (progress_of m).raised ≡ false
  pub shifted : (progress_of m).shifted ≡ false

-- a machine begins with such a word at reset and at a restart, after the word at PC has completed, after a jump, and after a word
-- that gives another one to be executed; and a word that is written to INSTR is such a one. After that the word at PC goes on from
-- where it was
pub record BeginsUntried (m : Machine1) : Type 0 where
  pub at_reset : IsUntried at_reset
  pub restarts : IsUntried (restarted m)
  pub completes : (delay : ℕ) → m.waiting ≡ None → IsUntried (ended delay Completed m)
  pub jumps : (delay address : ℕ) → IsUntried (ended delay (Jumped address) m)
  pub executes : (delay word : ℕ) → IsUntried (ended delay (Executes word) m)
  pub written : (word : ℕ) → IsUntried (record m { waiting = Some (forced word) })
  pub resumes : (delay : ℕ) (w : Waiting) → m.waiting ≡ Some w → progress_of (ended delay Completed m) ≡ m.progress

abbrev pub AWordBeginsUntried : Type 0
AWordBeginsUntried = (m : Machine1) → BeginsUntried m

-- ---- a word that is written to INSTR

-- it is tried in the next cycle, whether the machine is enabled or not, and whatever waited before
abbrev pub AWrittenWordComesNext : Type 0
AWrittenWordComesNext =
    (m : Machine1) (seen : Seen) (word : ℕ) → word_tried seen (record m { waiting = Some (forced word) }) ≡ Some word

-- ---- the bits that an IN shifts

-- from the right they stand at the bottom, and those of before above them; from the left at the top, and those of before below
pub record AreEntered (count value word : ℕ) : Type 0 where
  pub low : entered false count value word % 2 ^ count ≡ value % 2 ^ count
  pub above : entered false count value word / 2 ^ count ≡ word % 2 ^ (32 - count)
  pub high : entered true count value word / 2 ^ (32 - count) ≡ value % 2 ^ count
  pub below : entered true count value word % 2 ^ (32 - count) ≡ word / 2 ^ count

abbrev pub TheBitsInStandAtTheirEnd : Type 0
TheBitsInStandAtTheirEnd = (count value word : ℕ) → 1 ≤ count → count ≤ 32 → word < 2 ^ 32 → AreEntered count value word

-- ---- a stall

-- PC, the delay, X, Y and the RX FIFO are as they were
pub record IsKept (m t : Machine1) : Type 0 where
  pub pc : t.pc ≡ m.pc
  pub delay : t.delay ≡ m.delay
  pub x : t.x ≡ m.x
  pub y : t.y ≡ m.y
  pub rx : t.rx ≡ m.rx

-- a try that stalls leaves all of these
abbrev pub AStallKeepsTheRest : Type 0
AStallKeepsTheRest =
    (word : ℕ) (op : PioOp) (number : ℕ) (seen : Seen) (m : Machine1) → (tried op number seen m).ending ≡ Stalled →
    IsKept m (after_op word op number seen m)

-- Laws of words that stall, over all their tries (RP2040 Datasheet, 3.4.4, 3.4.9 and 3.5.4): what is done once is done once.
use Rattle.std.specs.Prelude.{◌≡◌, ℕ, ◌^◌, Bool, false, true, ◌&&◌, nat_le, if◌then◌else◌, List, [], ◌∷◌, ◌++◌, length, map, replicate, min}
use Rattle.rp_base.specs.Word.{has_bit}
use Rattle.pio_words.specs.declared.op.InSource.{InSource}
use Rattle.pio_words.specs.declared.op.IrqIndex.{IrqIndex}
use Rattle.pio_words.specs.declared.op.PioOp.{PioOp}
use Rattle.pio_words.specs.declared.op.PioOp.TheVariants.{In, Irq}
use Rattle.pio_machine.specs.declared.machine.Machine1.{Machine1}
use Rattle.pio_machine.specs.declared.machine.Seen.{Seen}
use Rattle.pio_machine.specs.Bits.{entered, counted}
use Rattle.pio_machine.specs.Fields.{in_right, autopush, push_threshold}
use Rattle.pio_machine.specs.Flags.{flag_of}
use Rattle.pio_machine.specs.Ending.Ending.{Stalled, Completed}
use Rattle.pio_machine.specs.Input.{in_value}
use Rattle.pio_machine.specs.Operation.{tried, written}
use Rattle.pio_machine.specs.Progress.{untried, progress_of}
use Rattle.pio_machine.specs.Start.{nothing_done}
use Rattle.pio_machine.specs.Cycle.{after_op}

-- ---- the tries of a word

-- a try: what the machine sees, and the machine before it
pub record Attempt : Type 0 where
  pub seen : Seen
  pub machine : Machine1

-- the tries of a word with this operation, from the first on: all but the last stall, and the last completes. Between a try and
-- the next one others may change the machine, as this relation allows
abbrev pub AreTries : (Machine1 → Machine1 → Type 0) → ℕ → PioOp → ℕ → Attempt → List Attempt → Type 0
AreTries leaves word op number t [] = (tried op number t.seen t.machine).ending ≡ Completed
AreTries leaves word op number t (u ∷ us) =
    ((tried op number t.seen t.machine).ending ≡ Stalled) × leaves (after_op word op number t.seen t.machine) u.machine
    × AreTries leaves word op number u us

abbrev pub last_of : Attempt → List Attempt → Attempt
last_of t [] = t
last_of t (u ∷ us) = last_of u us

-- ---- IN

-- others leave the ISR, and the memory of the word: they may take words from the RX FIFO, set its thresholds, and more
pub record LeavesTheIsr (m next : Machine1) : Type 0 where
  pub isr : next.isr ≡ m.isr
  pub isr_count : next.isr_count ≡ m.isr_count
  pub progress : progress_of next ≡ progress_of m

-- the bits that the source had at the first try, entered once
abbrev pub once_shifted : InSource → ℕ → Attempt → ℕ
once_shifted source count t =
    entered (in_right t.machine) (min count 32) (in_value source t.seen t.machine) t.machine.isr

abbrev pub once_counted : ℕ → Attempt → ℕ
once_counted count t = counted t.machine.isr_count (min count 32)

-- a count that reached the threshold
abbrev pub reaches : ℕ → Machine1 → Bool
reaches count m = autopush m && nat_le (push_threshold m) count

-- the word is pushed where its count reached the threshold, and else stays in the ISR
pub record IsShiftedOnce (word count : ℕ) (m after : Machine1) : Type 0 where
  pub isr : after.isr ≡ (if reaches count m then 0 else word)
  pub isr_count : after.isr_count ≡ (if reaches count m then 0 else count)
  pub rx : after.rx ≡ (if reaches count m then m.rx ++ word ∷ [] else m.rx)

-- an IN that completes has shifted its bits exactly once since it was first tried
abbrev pub AnInShiftsOnce : Type 0
AnInShiftsOnce =
    (source : InSource) (count word number : ℕ) (t : Attempt) (ts : List Attempt)
    → progress_of t.machine ≡ untried
    → AreTries LeavesTheIsr word (In source count) number t ts
    → IsShiftedOnce (once_shifted source count t) (once_counted count t) (last_of t ts).machine
    (after_op word (In source count) number (last_of t ts).seen (last_of t ts).machine)

-- ---- IRQ with Wait

-- others leave the memory of the word
pub record LeavesTheMemory (m next : Machine1) : Type 0 where
  pub progress : progress_of next ≡ progress_of m

-- the flags that a try sets
abbrev pub set_by : PioOp → ℕ → Attempt → ℕ
set_by op number t = (written op number t.seen t.machine nothing_done).set

-- the first of the tries sets the flag, and no other one a flag; and the last one finds it clear
pub record RaisesOnce (op : PioOp) (number flag : ℕ) (t : Attempt) (ts : List Attempt) : Type 0 where
  pub first : set_by op number t ≡ 2 ^ flag
  pub others : map (set_by op number) ts ≡ replicate (length ts) 0
  pub clear : has_bit (last_of t ts).seen.flags flag ≡ false

-- an IRQ with Wait that completes has raised its flag once since it was first tried
abbrev pub AnIrqRaisesOnce : Type 0
AnIrqRaisesOnce =
    (index : IrqIndex) (word number : ℕ) (t : Attempt) (ts : List Attempt)
    → progress_of t.machine ≡ untried
    → AreTries LeavesTheMemory word (Irq false true index) number t ts
    → RaisesOnce (Irq false true index) number (flag_of index number) t ts

-- The law of IN, autopush and PUSH over whole runs of a machine (RP2040 Datasheet, 3.4.4, 3.4.6 and 3.5.4): what comes out of the RX
-- FIFO, bit after bit, is what INs took.
use Rattle.std.specs.Prelude.{◌≡◌, ℕ, ◌+◌, ◌-◌, ◌/◌, ◌^◌, ◌<◌, Bool, true, false, not, ◌&&◌, nat_le, nat_lt, if◌then◌else◌, List, [], ◌∷◌, ◌++◌, map, Option, Some, None, min}
use Rattle.std.specs.List.{flat_map}
use Rattle.pio_words.specs.declared.op.PioOp.{PioOp}
use Rattle.pio_words.specs.declared.op.PioOp.TheVariants.{In, Out, Push, Mov}
use Rattle.pio_words.specs.declared.op.OutDestination.{OutDestination}
use Rattle.pio_words.specs.declared.op.OutDestination.TheVariants as out
use Rattle.pio_words.specs.declared.op.MovDestination.{MovDestination}
use Rattle.pio_words.specs.declared.op.MovDestination.TheVariants as moved
use Rattle.pio_words.specs.Operation.{operation_of}
use Rattle.pio_machine.specs.declared.machine.Machine1.{Machine1}
use Rattle.pio_machine.specs.declared.machine.Seen.{Seen}
use Rattle.pio_machine.specs.Fields.{in_right, autopush, push_threshold, is_rx_full}
use Rattle.pio_machine.specs.Progress.{progress_of}
use Rattle.pio_machine.specs.Input.{in_value, shifted_once}
use Rattle.pio_machine.specs.Stream.{leading}
use Rattle.pio_machine.specs.Cycle.{advanced, word_tried, after_cycle}

-- ---- bits

-- the bits that were shifted into a word, the oldest first: to the right they stand at its top, and to the left at its bottom
abbrev pub collected : Bool → ℕ → ℕ → List ℕ
collected right count word = leading right count count (if right then word / 2 ^ (32 - count) else word)

-- a word that is pushed, with how many bits were shifted into it
pub record Pushed : Type 0 where
  pub count : ℕ
  pub word : ℕ

abbrev pub bits_pushed : Machine1 → Pushed → List ℕ
bits_pushed m p = collected (in_right m) p.count p.word

abbrev pub bits_held : Machine1 → List ℕ
bits_held m = collected (in_right m) m.isr_count m.isr

-- ---- a try of a word

-- an IN takes so many low bits of its source, at its first try alone
abbrev pub taken_by : PioOp → Seen → Machine1 → List ℕ
taken_by (In source count) seen m =
    if (progress_of m).shifted then [] else leading (in_right m) (min count 32) (min count 32) (in_value source seen m)
taken_by _ seen m = []

-- the ISR is pushed where it is asked for and the RX FIFO has room
abbrev pub pushed_if : Bool → Machine1 → List Pushed
pushed_if asked m = if asked then (if is_rx_full m then [] else record { count = m.isr_count; word = m.isr } ∷ []) else []

-- under autopush by an IN that reaches the threshold, and by a PUSH, with IfFull where the threshold is reached
abbrev pub pushed_by : PioOp → Seen → Machine1 → List Pushed
pushed_by (In source count) seen m =
    pushed_if (autopush (shifted_once source count seen m) && nat_le (push_threshold (shifted_once source count seen m)) (shifted_once source count seen m).isr_count)
    (shifted_once source count seen m)
pushed_by (Push if_full block) seen m = pushed_if (not (if_full && nat_lt m.isr_count (push_threshold m))) m
pushed_by _ seen m = []

abbrev pub goes_to_isr : OutDestination → Bool
goes_to_isr out.Isr = true
goes_to_isr _ = false

abbrev pub moves_to_isr : MovDestination → Bool
moves_to_isr moved.Isr = true
moves_to_isr _ = false

-- bits are lost, or others come: an IN has more bits than the ISR has room for, a PUSH that does not wait finds the FIFO full, and
-- an OUT or a MOV goes to the ISR
abbrev pub loses : PioOp → Machine1 → Bool
loses (In source count) m = not (progress_of m).shifted && nat_lt 32 (m.isr_count + min count 32)
loses (Push if_full block) m = not (if_full && nat_lt m.isr_count (push_threshold m)) && (is_rx_full m && not block)
loses (Out destination count) m = goes_to_isr destination
loses (Mov destination operation source) m = moves_to_isr destination
loses _ m = false

-- ---- a cycle

abbrev pub taken_by_word : Option ℕ → Seen → Machine1 → List ℕ
taken_by_word None seen m = []
taken_by_word (Some word) seen m = taken_by (operation_of word) seen m

abbrev pub pushed_by_word : Option ℕ → Seen → Machine1 → List Pushed
pushed_by_word None seen m = []
pushed_by_word (Some word) seen m = pushed_by (operation_of word) seen m

abbrev pub word_loses : Option ℕ → Machine1 → Bool
word_loses None m = false
word_loses (Some word) m = loses (operation_of word) m

-- ---- a run

-- a cycle: the words that were read since the one before, and the machine at its start with what it sees
pub record Drained : Type 0 where
  pub words : List ℕ
  pub machine : Machine1
  pub seen : Seen

-- between two cycles others read these words, and leave the ISR and SHIFTCTRL; they may change the rest
pub record Drains (words : List ℕ) (m next : Machine1) : Type 0 where
  pub isr : next.isr ≡ m.isr
  pub isr_count : next.isr_count ≡ m.isr_count
  pub shiftctrl : next.shiftctrl ≡ m.shiftctrl
  pub rx : m.rx ≡ words ++ next.rx

-- these are the cycles of a machine from this state on, and in none of them bits are lost
abbrev pub AreDrained : ℕ → Machine1 → List Drained → Type 0
AreDrained number m [] = Unit {0}
AreDrained number m (t ∷ ts) =
    Drains t.words m t.machine × (word_loses (word_tried t.seen t.machine) (advanced t.machine) ≡ false)
    × AreDrained number (after_cycle number t.seen t.machine) ts

abbrev pub end_of : ℕ → Machine1 → List Drained → Machine1
end_of number m [] = m
end_of number m (t ∷ ts) = end_of number (after_cycle number t.seen t.machine) ts

abbrev pub read_over : List Drained → List ℕ
read_over ts = flat_map (λ t. t.words) ts

abbrev pub taken_over : List Drained → List ℕ
taken_over ts = flat_map (λ t. taken_by_word (word_tried t.seen t.machine) t.seen (advanced t.machine)) ts

abbrev pub pushed_over : List Drained → List Pushed
pushed_over ts = flat_map (λ t. pushed_by_word (word_tried t.seen t.machine) t.seen (advanced t.machine)) ts

-- the words that were read, and then those in the RX FIFO, are those that were there and then those that were pushed; and the bits of
-- these, and then those in the ISR, are those that it had and then those that INs took: none is lost, none comes twice
pub record ArePushed (number : ℕ) (m : Machine1) (ts : List Drained) : Type 0 where
  pub words : read_over ts ++ (end_of number m ts).rx ≡ m.rx ++ map (λ p. p.word) (pushed_over ts)
  pub bits : flat_map (bits_pushed m) (pushed_over ts) ++ bits_held (end_of number m ts) ≡ bits_held m ++ taken_over ts

-- the ISR has 32 bits
abbrev pub TheBitsInAreThosePushed : Type 0
TheBitsInAreThosePushed = (number : ℕ) (m : Machine1) (ts : List Drained) → m.isr < 2 ^ 32 → AreDrained number m ts → ArePushed number m ts

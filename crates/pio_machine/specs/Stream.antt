-- The law of OUT and autopull over whole runs of a machine (RP2040 Datasheet, 3.4.5 and 3.5.4): what OUTs give, bit after bit,
-- is what was sent, word after word.
use Rattle.std.specs.Prelude.{◌≡◌, ℕ, zero, suc, ◌-◌, Bool, false, not, if◌then◌else◌, List, [], ◌∷◌, ◌++◌, Option, Some, None, min}
use Rattle.std.specs.Int.{bit_at}
use Rattle.std.specs.List.{flat_map}
use Rattle.pio_words.specs.declared.op.PioOp.{PioOp}
use Rattle.pio_words.specs.declared.op.PioOp.TheVariants.{Out, Pull, Mov}
use Rattle.pio_words.specs.Operation.{operation_of}
use Rattle.pio_machine.specs.declared.machine.Machine1.{Machine1}
use Rattle.pio_machine.specs.declared.machine.Seen.{Seen}
use Rattle.pio_machine.specs.Fields.{out_right, pull_threshold}
use Rattle.pio_machine.specs.Queue.{is_pull_void}
use Rattle.pio_machine.specs.Output.{out_value, out_stalls}
use Rattle.pio_machine.specs.Operation.{is_osr}
use Rattle.pio_machine.specs.Cycle.{advanced, word_tried, after_cycle}

-- ---- bits in the order of a shift

-- so many members of a sequence
abbrev pub listed : ℕ → (ℕ → ℕ) → List ℕ
listed zero f = []
listed (suc n) f = f 0 ∷ listed n (λ i. f (suc i))

-- a shift to the right gives the lowest bit first, and one to the left the highest
abbrev pub bit_index : Bool → ℕ → ℕ → ℕ
bit_index right width turn = if right then turn else width - 1 - turn

-- the first bits of a number that has so many
abbrev pub leading : Bool → ℕ → ℕ → ℕ → List ℕ
leading right width count number = listed count (λ turn. bit_at number (bit_index right width turn))

-- ---- what waits

-- a word gives as many bits as the threshold says, since the next one is loaded there
abbrev pub bits_of_word : Machine1 → ℕ → List ℕ
bits_of_word m word = leading (out_right m) 32 (pull_threshold m) word

-- what is left of the OSR up to the threshold, and then the words of the TX FIFO
abbrev pub bits_waiting : Machine1 → List ℕ
bits_waiting m = leading (out_right m) 32 (pull_threshold m - m.osr_count) m.osr ++ flat_map (bits_of_word m) m.tx

-- ---- what is given

-- an OUT of so many bits gives those of its value, up to the threshold; what it shifts out beyond is of no further word
abbrev pub bits_of_out : ℕ → Machine1 → List ℕ
bits_of_out count m = leading (out_right m) count (min count (pull_threshold m - m.osr_count)) (out_value count m)

-- one that stalls gives nothing
abbrev pub given_by : PioOp → Machine1 → List ℕ
given_by (Out destination count) m = if out_stalls m then [] else bits_of_out (min count 32) m
given_by _ m = []

abbrev pub given_by_word : Option ℕ → Machine1 → List ℕ
given_by_word None m = []
given_by_word (Some word) m = given_by (operation_of word) m

abbrev pub given_in_cycle : Seen → Machine1 → List ℕ
given_in_cycle seen m = given_by_word (word_tried seen m) (advanced m)

-- ---- a run

-- what gives the OSR another word: a PULL that does something, and a MOV to it
abbrev pub replaces_osr : PioOp → Machine1 → Bool
replaces_osr (Pull if_empty block) m = not (is_pull_void if_empty m)
replaces_osr (Mov destination operation source) m = is_osr destination
replaces_osr _ m = false

abbrev pub word_replaces_osr : Option ℕ → Machine1 → Bool
word_replaces_osr None m = false
word_replaces_osr (Some word) m = replaces_osr (operation_of word) m

-- a cycle: the words that were sent since the one before and found room, and the machine at its start with what it sees
pub record Fed : Type 0 where
  pub words : List ℕ
  pub machine : Machine1
  pub seen : Seen

-- between two cycles others send these words, and leave the OSR and SHIFTCTRL; they may change the rest
pub record Feeds (words : List ℕ) (m next : Machine1) : Type 0 where
  pub osr : next.osr ≡ m.osr
  pub osr_count : next.osr_count ≡ m.osr_count
  pub shiftctrl : next.shiftctrl ≡ m.shiftctrl
  pub tx : next.tx ≡ m.tx ++ words

-- these are the cycles of a machine from this state on, and in none of them the OSR is given another word than by autopull
abbrev pub AreFed : ℕ → Machine1 → List Fed → Type 0
AreFed number m [] = Unit {0}
AreFed number m (t ∷ ts) =
    Feeds t.words m t.machine × (word_replaces_osr (word_tried t.seen t.machine) (advanced t.machine) ≡ false)
    × AreFed number (after_cycle number t.seen t.machine) ts

abbrev pub end_of : ℕ → Machine1 → List Fed → Machine1
end_of number m [] = m
end_of number m (t ∷ ts) = end_of number (after_cycle number t.seen t.machine) ts

abbrev pub given_over : List Fed → List ℕ
given_over ts = flat_map (λ t. given_in_cycle t.seen t.machine) ts

abbrev pub sent_over : List Fed → List ℕ
sent_over ts = flat_map (λ t. t.words) ts

-- the bits that OUTs gave, and then those that still wait, are those that waited at first, and then those of the words that
-- were sent, in order: none is lost, none comes twice
abbrev pub TheBitsOutAreThoseSent : Type 0
TheBitsOutAreThoseSent =
    (number : ℕ) (m : Machine1) (ts : List Fed)
    → AreFed number m ts
    → given_over ts ++ bits_waiting (end_of number m ts) ≡ bits_waiting m ++ flat_map (bits_of_word m) (sent_over ts)

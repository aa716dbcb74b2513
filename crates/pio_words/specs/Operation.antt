-- The operations of instruction words and the fields that say them (RP2040 Datasheet, 3.4.1 to 3.4.10). A word with another bit
-- pattern is reserved: the project's own.
use Rattle.std.specs.Prelude.{◌≡◌, ◌==◌, ℕ, ◌+◌, ◌*◌, ◌/◌, ◌%◌, ◌<◌, ◌≤◌, Bool, true, false, [], ◌∷◌, Option, None, Some, if◌then◌else◌, option_map, option_and_then}
use Rattle.pio_words.specs.declared.op.IrqIndex.{IrqIndex}
use Rattle.pio_words.specs.declared.op.WaitSource.{WaitSource}
use Rattle.pio_words.specs.declared.op.WaitSource.TheVariants.{Gpio, Pin, Irq as WaitIrq}
use Rattle.pio_words.specs.declared.op.PioOp.{PioOp}
use Rattle.pio_words.specs.declared.op.PioOp.TheVariants.{Jmp, Wait, In, Out, Push, Pull, Mov, Irq, Set, Reserved}
use Rattle.pio_words.specs.Table.{entry}
use Rattle.pio_words.specs.JmpCondition.{conditions}
use Rattle.pio_words.specs.InSource.{in_sources}
use Rattle.pio_words.specs.OutDestination.{out_destinations}
use Rattle.pio_words.specs.MovDestination.{mov_destinations}
use Rattle.pio_words.specs.MovOperation.{mov_operations}
use Rattle.pio_words.specs.MovSource.{mov_sources}
use Rattle.pio_words.specs.SetDestination.{set_destinations}

-- a bit as a number
abbrev pub bit : Bool → ℕ
bit false = 0
bit true = 1

-- the five bits of an interrupt flag's index: bit 4 adds the machine's number, bit 3 is 0, bits 2:0 are the flag
-- (RP2040 Datasheet, 3.4.9.2)
abbrev pub IsIrqIndex : IrqIndex → ℕ → Type 0
IsIrqIndex index low = (low ≡ 16 * bit index.relative + index.number) × (index.number < 8)

-- bits 6:5 and 4:0 of WAIT (RP2040 Datasheet, 3.4.3.2)
abbrev pub IsWaitSource : WaitSource → ℕ → ℕ → Type 0
IsWaitSource (Gpio n) code low = (code ≡ 0) × (low ≡ n) × (n < 32)
IsWaitSource (Pin n) code low = (code ≡ 1) × (low ≡ n) × (n < 32)
IsWaitSource (WaitIrq index) code low = (code ≡ 2) × IsIrqIndex index low

-- five bits of a count, where 0 is 32 (RP2040 Datasheet, 3.4.4.2)
abbrev pub IsCount : ℕ → ℕ → Type 0
IsCount count low = (low ≡ count % 32) × (0 < count) × (count ≤ 32)

-- the fields of an operation's words: bits 15:13, 7:5 and 4:0 (RP2040 Datasheet, 3.4.1)
abbrev pub HasFields : PioOp → ℕ → ℕ → ℕ → Type 0
HasFields (Jmp condition address) major middle low = (major ≡ 0) × (entry conditions middle ≡ Some condition) × (low ≡ address) × (address < 32)
HasFields (Wait polarity source) major middle low = (major ≡ 1) × (middle / 4 ≡ bit polarity) × IsWaitSource source (middle % 4) low
HasFields (In source count) major middle low = (major ≡ 2) × (entry in_sources middle ≡ Some source) × IsCount count low
HasFields (Out destination count) major middle low = (major ≡ 3) × (entry out_destinations middle ≡ Some destination) × IsCount count low
HasFields (Push if_full block) major middle low = (major ≡ 4) × (middle ≡ 2 * bit if_full + bit block) × (low ≡ 0)
HasFields (Pull if_empty block) major middle low = (major ≡ 4) × (middle ≡ 4 + 2 * bit if_empty + bit block) × (low ≡ 0)
HasFields (Mov destination operation source) major middle low =
    (major ≡ 5) × (entry mov_destinations middle ≡ Some destination) × (entry mov_operations (low / 8) ≡ Some operation) × (entry mov_sources (low % 8) ≡ Some source)
HasFields (Irq clear wait index) major middle low = (major ≡ 6) × (middle ≡ 2 * bit clear + bit wait) × IsIrqIndex index low
HasFields (Set destination value) major middle low = (major ≡ 7) × (entry set_destinations middle ≡ Some destination) × (low ≡ value) × (value < 32)
HasFields Reserved major middle low = ⊥

-- a word has the fields of an operation
abbrev pub HasOperation : PioOp → ℕ → Type 0
HasOperation op word = HasFields op (word / 8192) (word / 32 % 8) (word % 32)

-- an operation, or none where a field names nothing
abbrev pub or_reserved : Option PioOp → PioOp
or_reserved None = Reserved
or_reserved (Some op) = op

-- the index of an interrupt flag, where bit 3 is 0
abbrev pub irq_index_at : ℕ → Option IrqIndex
irq_index_at low = if low / 8 % 2 == 0 then Some (record { number = low % 8; relative = low / 16 == 1 }) else None

-- a count of five bits, where 0 is 32
abbrev pub count_at : ℕ → ℕ
count_at low = if low == 0 then 32 else low

abbrev pub wait_source_at : ℕ → ℕ → Option WaitSource
wait_source_at code low = entry (Some (Gpio low) ∷ Some (Pin low) ∷ option_map WaitIrq (irq_index_at low) ∷ []) code

abbrev pub jmp_at : ℕ → ℕ → Option PioOp
jmp_at middle low = option_map (λ condition. Jmp condition low) (entry conditions middle)

abbrev pub wait_at : ℕ → ℕ → Option PioOp
wait_at middle low = option_map (λ source. Wait (middle / 4 == 1) source) (wait_source_at (middle % 4) low)

abbrev pub in_at : ℕ → ℕ → Option PioOp
in_at middle low = option_map (λ source. In source (count_at low)) (entry in_sources middle)

abbrev pub out_at : ℕ → ℕ → Option PioOp
out_at middle low = option_map (λ destination. Out destination (count_at low)) (entry out_destinations middle)

abbrev pub push_pull_at : ℕ → ℕ → Option PioOp
push_pull_at middle low =
    if low == 0 then Some (if middle / 4 == 0 then Push (middle / 2 % 2 == 1) (middle % 2 == 1) else Pull (middle / 2 % 2 == 1) (middle % 2 == 1)) else None

abbrev pub mov_at : ℕ → ℕ → Option PioOp
mov_at middle low =
    option_and_then (λ destination. option_and_then (λ operation. option_map (λ source. Mov destination operation source)
    (entry mov_sources (low % 8))) (entry mov_operations (low / 8))) (entry mov_destinations middle)

abbrev pub irq_at : ℕ → ℕ → Option PioOp
irq_at middle low = if middle / 4 == 0 then option_map (λ index. Irq (middle / 2 % 2 == 1) (middle % 2 == 1) index) (irq_index_at low) else None

abbrev pub set_at : ℕ → ℕ → Option PioOp
set_at middle low = option_map (λ destination. Set destination low) (entry set_destinations middle)

-- the operation that a word's fields name: bits 15:13, 7:5 and 4:0
abbrev pub named_at : ℕ → ℕ → ℕ → Option PioOp
named_at major middle low = entry (jmp_at middle low ∷ wait_at middle low ∷ in_at middle low ∷ out_at middle low
    ∷ push_pull_at middle low ∷ mov_at middle low ∷ irq_at middle low ∷ set_at middle low ∷ []) major

-- the operation of a word
abbrev pub operation_of : ℕ → PioOp
operation_of word = or_reserved (named_at (word / 8192) (word / 32 % 8) (word % 32))

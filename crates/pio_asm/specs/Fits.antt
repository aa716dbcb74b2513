-- What the fields of an instruction word can hold (RP2040 Datasheet, 3.4.1 to 3.4.10; side-set and delay: 3.4.1 and 3.5.1).
use Rattle.std.specs.Prelude.{◌≡◌, ℕ, ◌-◌, ◌^◌, ◌<◌, ◌≤◌, Option, None, Some, MatchBool, ⊤}
use Rattle.pio_words.specs.declared.op.WaitSource.{WaitSource}
use Rattle.pio_words.specs.declared.op.WaitSource.TheVariants.{Gpio, Pin, Irq as WaitIrq}
use Rattle.pio_words.specs.declared.op.PioOp.{PioOp}
use Rattle.pio_words.specs.declared.op.PioOp.TheVariants.{Jmp, Wait, In, Out, Irq, Set, Reserved}
use Rattle.pio_words.specs.declared.side.SideConfig.{SideConfig}

-- the source of a WAIT fits its bits
abbrev pub IsWaitInRange : WaitSource → Type 0
IsWaitInRange (Gpio n) = n < 32
IsWaitInRange (Pin n) = n < 32
IsWaitInRange (WaitIrq index) = index.number < 8

-- the operands of an operation fit their bits
abbrev pub IsInRange : PioOp → Type 0
IsInRange (Jmp condition address) = address < 32
IsInRange (Wait polarity source) = IsWaitInRange source
IsInRange (In source count) = (0 < count) × (count ≤ 32)
IsInRange (Out destination count) = (0 < count) × (count ≤ 32)
IsInRange (Irq clear wait index) = index.number < 8
IsInRange (Set destination value) = value < 32
IsInRange Reserved = ⊥
IsInRange op = ⊤

-- a side-set value, or none, and a delay fit the bits that an enable bit leaves
abbrev pub FitsOptionalSide : ℕ → Option ℕ → ℕ → Type 0
FitsOptionalSide count None delay = (count ≤ 4) × (delay < 2 ^ (4 - count))
FitsOptionalSide count (Some value) delay = (count ≤ 4) × (delay < 2 ^ (4 - count)) × (value < 2 ^ count)

-- the same without an enable bit
abbrev pub FitsPlainSide : ℕ → Option ℕ → ℕ → Type 0
FitsPlainSide count None delay = (count ≡ 0) × (delay < 32)
FitsPlainSide count (Some value) delay = (0 < count) × (count ≤ 5) × (delay < 2 ^ (5 - count)) × (value < 2 ^ count)

-- a side-set value, or none, and a delay fit bits 12:8
abbrev pub FitsSide : SideConfig → Option ℕ → ℕ → Type 0
FitsSide side value delay = MatchBool side.opt (FitsOptionalSide side.count value delay) (FitsPlainSide side.count value delay)

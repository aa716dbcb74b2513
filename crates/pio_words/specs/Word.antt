-- Instruction words (RP2040 Datasheet, 3.4.1), and the laws that take a word back to what it was made from.
use Rattle.std.specs.Prelude.{◌≡◌, ℕ, ◌/◌, ◌%◌, ◌<◌, Option, Some}
use Rattle.pio_words.specs.declared.op.PioOp.{PioOp}
use Rattle.pio_words.specs.declared.side.SideConfig.{SideConfig}
use Rattle.pio_words.specs.Operation.{HasOperation, operation_of}
use Rattle.pio_words.specs.Side.{IsSideField, side_at}

-- the word of an operation with a side-set value, or none, and a delay under a side-set configuration (RP2040 Datasheet, 3.4.1)
pub record IsWord (op : PioOp) (side : SideConfig) (value : Option ℕ) (delay word : ℕ) : Type 0 where
  pub is_half : word < 65536
  pub has_operation : HasOperation op word
  pub has_side : IsSideField side value delay (word / 256 % 32)

-- a word's operation is the one that it was made from
abbrev pub DecodesBack : Type 0
DecodesBack = (op : PioOp) (side : SideConfig) (value : Option ℕ) (delay word : ℕ) → IsWord op side value delay word → operation_of word ≡ op

-- an operation with its side-set value, its delay and the configuration has at most one word
abbrev pub IsOneWord : Type 0
IsOneWord = (op : PioOp) (side : SideConfig) (value : Option ℕ) (delay word other : ℕ) → IsWord op side value delay word → IsWord op side value delay other → word ≡ other

-- a word's side-set value and its delay are those that it was made from
abbrev pub SideDecodesBack : Type 0
SideDecodesBack = (op : PioOp) (side : SideConfig) (value : Option ℕ) (delay word : ℕ) → IsWord op side value delay word → side_at side (word / 256 % 32) ≡ Some (record { value = value; delay = delay })

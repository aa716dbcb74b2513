use Rattle.std.proofs.Common.{◌≡◌, ℕ, Some, refl}
use Rattle.pio_words.specs.declared.op.MovOperation.{MovOperation}
use Rattle.pio_words.specs.declared.op.MovOperation.TheVariants.{Plain, Invert, Reverse}
use Rattle.pio_words.specs.Table.{entry}
use Rattle.pio_words.specs.MovOperation.{mov_operations}
use Rattle.pio_words.proofs.Codes.{one-entry}

code : MovOperation → ℕ
code Plain = 0
code Invert = 1
code Reverse = 2

-- a name stands in the table once
pub mov_operations-unique : (m n : ℕ) (x : MovOperation) → entry mov_operations m ≡ Some x → entry mov_operations n ≡ Some x → m ≡ n
unfolding code
mov_operations-unique m n x a b = one-entry code mov_operations m n x refl a b

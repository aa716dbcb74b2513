use Rattle.std.proofs.Common.{◌≡◌, ℕ, Some, refl}
use Rattle.pio_words.specs.declared.op.InSource.{InSource}
use Rattle.pio_words.specs.declared.op.InSource.TheVariants.{Pins, X, Y, Null, Isr, Osr}
use Rattle.pio_words.specs.Table.{entry}
use Rattle.pio_words.specs.InSource.{in_sources}
use Rattle.pio_words.proofs.Codes.{one-entry}

code : InSource → ℕ
code Pins = 0
code X = 1
code Y = 2
code Null = 3
code Isr = 6
code Osr = 7

-- a name stands in the table once
pub in_sources-unique : (m n : ℕ) (x : InSource) → entry in_sources m ≡ Some x → entry in_sources n ≡ Some x → m ≡ n
unfolding code
in_sources-unique m n x a b = one-entry code in_sources m n x refl a b

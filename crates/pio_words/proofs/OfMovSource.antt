use Rattle.std.proofs.Common.{◌≡◌, ℕ, Some, refl}
use Rattle.pio_words.specs.declared.op.MovSource.{MovSource}
use Rattle.pio_words.specs.declared.op.MovSource.TheVariants.{Pins, X, Y, Null, Status, Isr, Osr}
use Rattle.pio_words.specs.Table.{entry}
use Rattle.pio_words.specs.MovSource.{mov_sources}
use Rattle.pio_words.proofs.Codes.{one-entry}

code : MovSource → ℕ
code Pins = 0
code X = 1
code Y = 2
code Null = 3
code Status = 5
code Isr = 6
code Osr = 7

-- a name stands in the table once
pub mov_sources-unique : (m n : ℕ) (x : MovSource) → entry mov_sources m ≡ Some x → entry mov_sources n ≡ Some x → m ≡ n
unfolding code
mov_sources-unique m n x a b = one-entry code mov_sources m n x refl a b

use Rattle.std.proofs.Common.{◌≡◌, ℕ, Some, refl}
use Rattle.pio_words.specs.declared.op.MovDestination.{MovDestination}
use Rattle.pio_words.specs.declared.op.MovDestination.TheVariants.{Pins, X, Y, Exec, Pc, Isr, Osr}
use Rattle.pio_words.specs.Table.{entry}
use Rattle.pio_words.specs.MovDestination.{mov_destinations}
use Rattle.pio_words.proofs.Codes.{one-entry}

code : MovDestination → ℕ
code Pins = 0
code X = 1
code Y = 2
code Exec = 4
code Pc = 5
code Isr = 6
code Osr = 7

-- a name stands in the table once
pub mov_destinations-unique : (m n : ℕ) (x : MovDestination) → entry mov_destinations m ≡ Some x → entry mov_destinations n ≡ Some x → m ≡ n
unfolding code
mov_destinations-unique m n x a b = one-entry code mov_destinations m n x refl a b

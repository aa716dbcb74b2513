use Rattle.std.proofs.Common.{◌≡◌, ℕ, Some, refl}
use Rattle.pio_words.specs.declared.op.OutDestination.{OutDestination}
use Rattle.pio_words.specs.declared.op.OutDestination.TheVariants.{Pins, X, Y, Null, Pindirs, Pc, Isr, Exec}
use Rattle.pio_words.specs.Table.{entry}
use Rattle.pio_words.specs.OutDestination.{out_destinations}
use Rattle.pio_words.proofs.Codes.{one-entry}

code : OutDestination → ℕ
code Pins = 0
code X = 1
code Y = 2
code Null = 3
code Pindirs = 4
code Pc = 5
code Isr = 6
code Exec = 7

-- a name stands in the table once
pub out_destinations-unique : (m n : ℕ) (x : OutDestination) → entry out_destinations m ≡ Some x → entry out_destinations n ≡ Some x → m ≡ n
unfolding code
out_destinations-unique m n x a b = one-entry code out_destinations m n x refl a b

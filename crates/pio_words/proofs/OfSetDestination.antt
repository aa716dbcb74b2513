use Rattle.std.proofs.Common.{◌≡◌, ℕ, Some, refl}
use Rattle.pio_words.specs.declared.op.SetDestination.{SetDestination}
use Rattle.pio_words.specs.declared.op.SetDestination.TheVariants.{Pins, X, Y, Pindirs}
use Rattle.pio_words.specs.Table.{entry}
use Rattle.pio_words.specs.SetDestination.{set_destinations}
use Rattle.pio_words.proofs.Codes.{one-entry}

code : SetDestination → ℕ
code Pins = 0
code X = 1
code Y = 2
code Pindirs = 4

-- a name stands in the table once
pub set_destinations-unique : (m n : ℕ) (x : SetDestination) → entry set_destinations m ≡ Some x → entry set_destinations n ≡ Some x → m ≡ n
unfolding code
set_destinations-unique m n x a b = one-entry code set_destinations m n x refl a b

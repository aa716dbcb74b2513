use Rattle.std.proofs.Common.{◌≡◌, ℕ, Some, refl}
use Rattle.pio_words.specs.declared.op.JmpCondition.{JmpCondition}
use Rattle.pio_words.specs.declared.op.JmpCondition.TheVariants.{Always, XZero, XDecrement, YZero, YDecrement, XNotY, Pin, OsrNotEmpty}
use Rattle.pio_words.specs.Table.{entry}
use Rattle.pio_words.specs.JmpCondition.{conditions}
use Rattle.pio_words.proofs.Codes.{one-entry}

code : JmpCondition → ℕ
code Always = 0
code XZero = 1
code XDecrement = 2
code YZero = 3
code YDecrement = 4
code XNotY = 5
code Pin = 6
code OsrNotEmpty = 7

-- a name stands in the table once
pub conditions-unique : (m n : ℕ) (x : JmpCondition) → entry conditions m ≡ Some x → entry conditions n ≡ Some x → m ≡ n
unfolding code
conditions-unique m n x a b = one-entry code conditions m n x refl a b

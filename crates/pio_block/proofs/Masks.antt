-- Where no interrupt is enabled only those that are forced are left.
use Rattle.std.proofs.Common.{◌≡◌, ℕ, ◌∙◌, ap}
use Rattle.std.specs.Prelude.{bit_and, bit_or}
use Rattle.std.specs.Int.Bits.{and_zero_r, or_zero_l}

pub none_enabled : (x y : ℕ) → bit_or (bit_and x 0) y ≡ y
none_enabled x y = ap (λ n. bit_or n y) (and_zero_r x) ∙ or_zero_l y

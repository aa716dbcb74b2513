use Rattle.std.proofs.Common.{◌≡◌, ℤ, Bool, true, false, Option, None, Some, refl, ap, cond, arith}
use Rattle.pio_asm.proofs.Shared.{FitsSigned, SomeIff, ints, bounded, bounded_option, is_in_bounds}
use Rattle.std.specs.Int.{w64}

bounds-fit : (z : ℤ) → is_in_bounds z ≡ true → FitsSigned w64 z
bounds-fit z h = grind (arith, ints)

by_test : (b : Bool) (z : ℤ) → (b ≡ true → FitsSigned w64 z) → (FitsSigned w64 z → ⊥) → None ≡ cond b (Some z) None
by_test true z f h = absurd (h (f refl))
by_test false z f h = refl

-- a checked operation of the machine's numbers finds every result that is in bounds
pub checked_bounded : (o : Option ℤ) (z : ℤ) → SomeIff o (FitsSigned w64 z) z → bounded_option o ≡ bounded z
checked_bounded None z h = by_test (is_in_bounds z) z (bounds-fit z) h
checked_bounded (Some x) z h = ap bounded h.1

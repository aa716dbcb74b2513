-- The bit of a pin in a mask and in a level.
use Rattle.std.proofs.Common.{◌≡◌, ℕ, zero, suc, ◌*◌, ◌^◌, ◌<◌, ◌==◌, if◌then◌else◌, max, arith}
use Rattle.std.specs.Int.{bit_at}
use Rattle.std.proofs.lemmas.Bool.Decides.{nat_tests}
use Rattle.std.proofs.lemmas.Nat.Bits.{bit_at-zero, bit_at-pow_same, bit_at-pow_other}
use Rattle.std.proofs.Math.Nat.{one-mul, zero-mul}

-- a level, 0 or 1, at its pin
pub level_at : (level pin : ℕ) → level < 2 → bit_at (level * 2 ^ pin) pin ≡ level
level_at zero pin low = rw zero-mul (bit_at-zero pin)
level_at (suc zero) pin low = rw one-mul (bit_at-pow_same pin)
level_at (suc (suc level)) pin low = absurd (omega arith)

-- of a mask of one pin, that pin's bit is set and no other
pub mask_at : (to pin : ℕ) → bit_at (2 ^ to) pin ≡ (if pin == to then 1 else 0)
mask_at to pin = grind (arith, nat_tests, bit_at-pow_same to, bit_at-pow_other to pin)

-- of two bits, one of which is set where the first is and else as the second
pub either : (x y : ℕ) → x < 2 → y < 2 → max x y ≡ (if x == 1 then 1 else y)
either zero y bx by = omega arith
either (suc zero) y bx by = omega arith
either (suc (suc x)) y bx by = absurd (omega arith)

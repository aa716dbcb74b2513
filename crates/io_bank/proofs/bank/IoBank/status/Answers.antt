use Rattle.std.proofs.Common.{◌≡◌, ℕ, ◌/◌, refl, arith}
use Rattle.io_bank.proofs.bank.IoBank.status.Goals as goal

by_one : (n : ℕ) → n / 1 ≡ n
by_one n = omega arith

pub returns : goal.returns
returns c =
    rw (c.bit_number.ensures, c.bit_number-2.ensures, c.bit_number-3.ensures, c.bit_number-4.ensures, c.bit_number-5.ensures, c.bit_number-6.ensures, c.overridden.ensures, c.overridden-2.ensures, c.overridden-3.ensures, c.is_sensed-sensed.ensures, c.has_bit-level.ensures, c.has_bit-enable.ensures, c.from-bit.ensures, c.of_function-outputs.ensures, ← c.self.view_is)
    (rw by_one refl)

use Rattle.std.proofs.Common.{ℕ, ◌<◌}
use Rattle.pio_asm.specs.Addresses.{AreFree}
use Rattle.pio_asm.proofs.addresses.first_address.Given as goal

abbrev pub invariant-loop-offset : goal.invariant-loop-offset
invariant-loop-offset l = (lower : ℕ) → lower < l.offset → ¬ AreFree l.used lower l.count

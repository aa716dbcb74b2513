use Rattle.std.proofs.Common.{ℕ, ◌+◌, ◌<◌}
use Rattle.pio_asm.specs.Addresses.{IsFree}
use Rattle.pio_asm.proofs.addresses.are_free.Given as goal

abbrev pub invariant-loop-index : goal.invariant-loop-index
invariant-loop-index l = (k : ℕ) → k < l.index → IsFree l.used (l.offset + k)

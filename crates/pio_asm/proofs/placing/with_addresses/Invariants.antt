use Rattle.std.proofs.Common.{◌≡◌}
use Rattle.pio_asm.specs.Placing.{with_addresses}
use Rattle.pio_asm.proofs.placing.with_addresses.Given as goal

abbrev pub invariant-loop-index : goal.invariant-loop-index
invariant-loop-index l = l.taken ≡ with_addresses l.used l.offset l.index

use Rattle.std.proofs.Common.{◌≡◌, ◌≤◌}
use Rattle.rp_uart.specs.Frame.{low_bits, ones_of}
use Rattle.rp_uart.proofs.frame.ones.Given as goal

abbrev pub invariant-loop-bit : goal.invariant-loop-bit
invariant-loop-bit l = (l.count ≡ ones_of (low_bits l.byte l.bit)) × (l.count ≤ l.bit)

use Rattle.std.proofs.Common.{◌≡◌}
use Rattle.rp_uart.specs.Quiet.{after_cycles}
use Rattle.rp_uart.proofs.uart.Uart.step_each.Given as goal

abbrev pub invariant-loop-k : goal.invariant-loop-k
invariant-loop-k l = l.self ≡ after_cycles l.line l._k l.fn.self

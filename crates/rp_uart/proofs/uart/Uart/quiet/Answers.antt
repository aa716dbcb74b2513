use Rattle.rp_uart.proofs.Passing.{left-quiet}
use Rattle.rp_uart.proofs.uart.Uart.quiet.Goals as goal

pub returns : goal.returns
returns c = left-quiet c.args.line c.args.self.now c.cycles_left.result c.cycles_left.ensures
